-- Each turn takes a byte or two from what is left, and gives one.
use Rattle.std.proofs.Common.{◌+◌, ◌≤◌, length}
use Rattle.cases.proofs.escape.unescape.Given as goal

abbrev pub invariant-loop-first : goal.invariant-loop-first
invariant-loop-first l = length l.text.items + length l.rest ≤ length l.escaped

abbrev pub decreases-loop-first : goal.decreases-loop-first
decreases-loop-first l = length l.rest
