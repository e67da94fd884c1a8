-- What unfolds where a scan, a trace or what is shown is computed: the proof of a computed fact says `unfolding computing`.
use Rattle.lexical.specs.Text.{run, limit}
use Rattle.lexical.specs.Line.{lineEnding, endsLine, lineEndings, lines, isBlank, isLineStart}
use Rattle.lexical.specs.Name.{all, sameBytes, isMember, blockNames, rawNames, disallowedNames, isBlockName, isRawName, isDisallowedName, placeFrom, blockPlace, rawPlace, cdataPrefix}
use Rattle.lexical.specs.Point.{tabReadings, passed, movedBy, pointAt}
use Rattle.rules.specs.Search.{somewhere, before, past, throughFirst}
use Rattle.rules.specs.Tag.{tagEnd, values, attributes, openTag, closingTag}
use Rattle.rules.specs.Inline.{comment, instruction, declaration, htmlTag, prefix, rawHtml, readInline}
use Rattle.rules.specs.Lines.{cutLines, flagged, linesOf}
use Rattle.rules.specs.Block as Block
use Rattle.rules.specs.Block.{startsRaw, startsBasic, startsComplete, kindAt, kindOf, placeOf, beforeEven, beforeCloser, closes, extentOf, inLast}
use Rattle.rules.specs.Refusal.{refusal, blankFollows, inlineRefusal, blockRefusal, bulletinRefusal, outputRefusal}
use Rattle.rules.specs.Scan.{inlineAt, inlineScan, blockOf, linesAt, blockAt, blockScan}
use Rattle.rules.specs.Trace.{textLines, textEvents, flowLines, flowEvents, endsEmpty, flowExit, inlineRecords, flowRecords, blockRecords, field, recordBytes, traceBytes, number, recordLength, recordRefusal, recordAt, readTrace}
use Rattle.rules.specs.Withhold.{marks, goesOn, inlinePieces, linePieces, pieces, isWithheld, outside, shown, count, written}
use Rattle.rules.specs.Output.{answering}
use Rattle.rules.specs.Spans.{spansOf, foundSpans, findRefusal, find, areSpans, spansRefusal, showRefusal, show, partOf, stretchPart, stretch, withholdRefusal, withhold, spanBytes, joined}
use Rattle.rules.specs.Filter.{isDisallowed, isCounted, replaced, filtered, filterRefusal, filter}
use Rattle.rules.specs.Private.{any}
use Rattle.rules.specs.Edition as Edition
use Rattle.rules.specs.Edition.{withholdsAll}

unfoldable pub computing : Unit {0}
unfolding run limit lineEnding endsLine lineEndings lines isBlank isLineStart all sameBytes isMember blockNames rawNames disallowedNames isBlockName isRawName isDisallowedName placeFrom blockPlace rawPlace cdataPrefix tabReadings passed movedBy pointAt somewhere before past throughFirst tagEnd values attributes openTag closingTag comment instruction declaration htmlTag prefix rawHtml readInline cutLines flagged linesOf startsRaw startsBasic startsComplete kindAt kindOf placeOf beforeEven beforeCloser closes Block.goesOn extentOf inLast refusal blankFollows inlineRefusal blockRefusal bulletinRefusal outputRefusal inlineAt inlineScan blockOf linesAt blockAt blockScan textLines textEvents flowLines flowEvents endsEmpty flowExit inlineRecords flowRecords blockRecords field recordBytes traceBytes number recordLength recordRefusal recordAt readTrace marks goesOn inlinePieces linePieces pieces isWithheld outside shown count written answering spansOf foundSpans findRefusal find areSpans spansRefusal showRefusal show partOf stretchPart stretch withholdRefusal withhold spanBytes joined isDisallowed isCounted replaced filtered filterRefusal filter any Edition.text withholdsAll
computing = tt
