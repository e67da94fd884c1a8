-- What is left of the list are spans from the last stop on just where the whole list are spans.
use Rattle.std.proofs.Common.{◌≡◌, length}
use Rattle.rules.specs.Spans.{areSpans}
use Rattle.spans.proofs.list.are_spans.Given as goal

abbrev pub invariant-loop-span : goal.invariant-loop-span
invariant-loop-span l = areSpans l.from l.end l.left ≡ areSpans 0 l.end l.list

abbrev pub decreases-loop-span : goal.decreases-loop-span
decreases-loop-span l = length l.left
