-- The invariant: what is counted and what is left are the whole, with at most six events for each byte passed, so that no sum wraps.
use Rattle.std.proofs.Common.{◌≡◌, ◌+◌, ◌*◌, ◌-◌, ◌≤◌, length}
use Rattle.trace.specs.Walk.{restEvents}
use Rattle.trace.proofs.piece.count_lines.Given as goal

abbrev pub invariant-loop-form : goal.invariant-loop-form
invariant-loop-form l = (l.i ≤ length l.front) × (l.count ≤ 6 * l.i) × (l.count + length (restEvents l.form l.front l.i) ≡ length (restEvents l.form l.front l.initial.i))

abbrev pub decreases-loop-form : goal.decreases-loop-form
decreases-loop-form l = length l.front - l.i
