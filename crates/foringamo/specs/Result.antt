-- The structs of the C interface, of each answer: the numbers and values of SCOPE, and 0 where there is none, but 255 where there is no name. A refusal has its
-- number, zero counts, stops and closers, no name, and the carry passed in.
use Rattle.std.specs.Prelude.{ℕ, Bool, true, false}
use Rattle.lexical.specs.Name.{unnamed}
use Rattle.rules.specs.Scan.{InlineAnswer, foundInline, noInline, refusedInline, BlockAnswer, foundBlock, noBlock, refusedBlock}
use Rattle.rules.specs.Trace.{Record, eventRecord, lastRecord, refusedRecord}
use Rattle.rules.specs.Withhold.{Shown, shows, refusedShown}
use Rattle.rules.specs.Output.{Wrote, wrote, refusedWrite}
use Rattle.rules.specs.Spans.{Part}
use Rattle.foringamo.specs.declared.block.BlockResult.{BlockResult}
use Rattle.foringamo.specs.declared.inline.InlineResult.{InlineResult}
use Rattle.foringamo.specs.declared.record.RecordResult.{RecordResult}
use Rattle.foringamo.specs.declared.shown.ShownResult.{ShownResult}
use Rattle.foringamo.specs.declared.found.SpansResult.{SpansResult}
use Rattle.foringamo.specs.declared.found.PartResult.{PartResult}
use Rattle.foringamo.specs.declared.written.WrittenResult.{WrittenResult}

-- yes is 1, no is 0
abbrev pub flag : Bool → ℕ
flag true = 1
flag false = 0

abbrev pub blockResult : BlockAnswer → BlockResult
blockResult (foundBlock b) = record { refusal = 0; kind = b.kind; closed = flag b.closed; name = b.name; stop = b.stop; closer = b.closer }
blockResult noBlock = record { refusal = 0; kind = 0; closed = 0; name = unnamed; stop = 0; closer = 0 }
blockResult (refusedBlock n) = record { refusal = n; kind = 0; closed = 0; name = unnamed; stop = 0; closer = 0 }

abbrev pub inlineResult : InlineAnswer → InlineResult
inlineResult (foundInline stop carry) = record { refusal = 0; found = 1; carry = carry; stop = stop }
inlineResult (noInline carry) = record { refusal = 0; found = 0; carry = carry; stop = 0 }
inlineResult (refusedInline n carry) = record { refusal = n; found = 0; carry = carry; stop = 0 }

abbrev pub recordResult : Record → RecordResult
recordResult (eventRecord kind line column index vs) = record { refusal = 0; kind = kind; last = vs; line = line; column = column; index = index }
recordResult (lastRecord kind stop value) = record { refusal = 0; kind = kind; last = value; line = 0; column = 0; index = stop }
recordResult (refusedRecord n) = record { refusal = n; kind = 0; last = 0; line = 0; column = 0; index = 0 }

abbrev pub shownResult : Shown → ShownResult
shownResult (shows n count) = record { refusal = 0; length = n; pieces = count }
shownResult (refusedShown n) = record { refusal = n; length = 0; pieces = 0 }

abbrev pub writtenResult : Wrote → WrittenResult
writtenResult (wrote n) = record { refusal = 0; length = n }
writtenResult (refusedWrite n) = record { refusal = n; length = 0 }

abbrev pub spansResult : Wrote → SpansResult
spansResult (wrote count) = record { refusal = 0; count = count }
spansResult (refusedWrite n) = record { refusal = n; count = 0 }

abbrev pub partResult : Part → PartResult
partResult p = record { start = p.start; length = p.size }
