-- From span to span, by the law of the walk: the bytes before each span are copied, and then the rest.
use Rattle.std.proofs.Common.{length}
use Rattle.rules.specs.Spans.{asPieces}
use Rattle.runs.proofs.Spans.{Spans}
use Rattle.walk.proofs.Replacing.{withholding, Showing}
use Rattle.spans.proofs.show.write_beside.Given as goal

abbrev pub invariant-loop-span : goal.invariant-loop-span
invariant-loop-span l =
    Spans l.from (length l.bulletin) l.left × Showing (asPieces l.spans) (withholding l.bulletin) l.initial.out l.out (asPieces l.left) l.from l.size

abbrev pub decreases-loop-span : goal.decreases-loop-span
decreases-loop-span l = length l.left
