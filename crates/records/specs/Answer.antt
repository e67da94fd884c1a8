-- What the types of this crate say, by the numbers and values of the definitions.
use Rattle.std.specs.Prelude.{ℕ, suc, Result, Ok, Err}
use Rattle.rules.specs.Trace.{htmlFlow, htmlFlowData, lineEndingKind, htmlText, htmlTextData, spaceOrTab, narrow, wide, Record as Read, eventRecord, lastRecord, refusedRecord}
use Rattle.rules.specs.Refusal.{refusalNumber}
use Rattle.rules.specs.declared.refusal.Refusal.{Refusal}
use Rattle.records.specs.declared.event.Name.{Name}
use Rattle.records.specs.declared.event.Name.TheVariants.{HtmlFlow, HtmlFlowData, LineEnding, HtmlText, HtmlTextData, SpaceOrTab}
use Rattle.records.specs.declared.event.Kind.{Kind}
use Rattle.records.specs.declared.event.Kind.TheVariants.{Enter, Exit}
use Rattle.records.specs.declared.event.Form.{Form}
use Rattle.records.specs.declared.event.Form.TheVariants.{Text, Flow}
use Rattle.records.specs.declared.reader.Record.{Record}
use Rattle.records.specs.declared.reader.Record.TheVariants.{Event, Last}
use Rattle.records.specs.declared.reader.Width.{Width}
use Rattle.records.specs.declared.reader.Width.TheVariants.{Narrow, Wide}

-- how many bytes a field has
abbrev pub bytesOf : Width → ℕ
bytesOf Narrow = narrow
bytesOf Wide = wide

-- the number of an enter, of an event, and of a last record
abbrev pub enterNumber : Name → ℕ
enterNumber HtmlFlow = htmlFlow
enterNumber HtmlFlowData = htmlFlowData
enterNumber LineEnding = lineEndingKind
enterNumber HtmlText = htmlText
enterNumber HtmlTextData = htmlTextData
enterNumber SpaceOrTab = spaceOrTab

abbrev pub eventNumber : Kind → Name → ℕ
eventNumber Enter name = enterNumber name
eventNumber Exit name = suc (enterNumber name)

abbrev pub formNumber : Form → ℕ
formNumber Text = 13
formNumber Flow = 14

-- what a trace of the form enters first and exits last, and the bytes of a line in it
abbrev pub wholeOf : Form → Name
wholeOf Text = HtmlText
wholeOf Flow = HtmlFlow

abbrev pub dataOf : Form → Name
dataOf Text = HtmlTextData
dataOf Flow = HtmlFlowData

-- number, line, column, index and vs; number, stop, and carry or block kind
abbrev pub recordOf : Record → Read
recordOf (Event kind name line column index vs) = eventRecord (eventNumber kind name) line column index vs
recordOf (Last form stop value) = lastRecord (formNumber form) stop value

-- the first byte of a record
abbrev pub numberOf : Record → ℕ
numberOf (Event kind name line column index vs) = eventNumber kind name
numberOf (Last form stop value) = formNumber form

-- a record, or the number of a refusal
abbrev pub readOf : Result Record Refusal → Read
readOf (Ok r) = recordOf r
readOf (Err r) = refusedRecord (refusalNumber r)
