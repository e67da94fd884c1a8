-- The invariant: what was marked, and the lines that are left, are what was to be marked. A turn moves the pen past an ending, so the loop ends.
use Rattle.std.proofs.Common.{◌-◌, length}
use Rattle.trace.proofs.Turns.{Left}
use Rattle.trace.proofs.pen.Pen.mark_lines.Given as goal

abbrev pub invariant-loop-form : goal.invariant-loop-form
invariant-loop-form l = Left l.form l.initial.self l.self

abbrev pub decreases-loop-form : goal.decreases-loop-form
decreases-loop-form l = length l.self.front.now - l.self.point.index
