-- From span to span, by the law of the walk: the bytes before each span are counted, and then the rest.
use Rattle.std.proofs.Common.{length}
use Rattle.rules.specs.Spans.{asPieces}
use Rattle.runs.proofs.Spans.{Spans}
use Rattle.walk.proofs.Replacing.{withholding, Walking}
use Rattle.spans.proofs.show.beside_length.Given as goal

abbrev pub invariant-loop-span : goal.invariant-loop-span
invariant-loop-span l = Spans l.from (length l.bulletin) l.left × Walking (asPieces l.spans) (withholding l.bulletin) (asPieces l.left) l.from l.size

abbrev pub decreases-loop-span : goal.decreases-loop-span
decreases-loop-span l = length l.left
