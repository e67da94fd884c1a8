-- The stretch is that before the span so many ahead of what is left.
use Rattle.std.proofs.Common.{◌≡◌, length}
use Rattle.rules.specs.Spans.{partOf}
use Rattle.runs.proofs.Spans.{Spans}
use Rattle.spans.proofs.stretch.part_of.Given as goal

abbrev pub invariant-loop-span : goal.invariant-loop-span
invariant-loop-span l = Spans l.from l.end l.left × (partOf l.ahead l.from l.end l.left ≡ partOf l.number 0 l.end l.spans)

abbrev pub decreases-loop-span : goal.decreases-loop-span
decreases-loop-span l = length l.left
