-- The invariant: only the bytes that were read have changed. Each call that is made again moved a byte at least, or used up patience; so what is left of both,
-- which is the measure, falls.
use Rattle.std.proofs.Common.{length, ◌-◌, ◌+◌}
use Rattle.withhold.specs.Input.{FrontOnly}
use Rattle.withhold.proofs.input.read_input.Given as goal

abbrev pub invariant-loop-done : goal.invariant-loop-done
invariant-loop-done g l = FrontOnly l.done l.initial.buffer l.buffer

abbrev pub decreases-loop-done : goal.decreases-loop-done
decreases-loop-done g l = (length l.initial.buffer - l.done) + l.patience
