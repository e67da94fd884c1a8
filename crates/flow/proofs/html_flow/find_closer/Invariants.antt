-- The invariant: no more bytes of a closer were seen than bytes were read, and in what is left the closer begins where it does in the line.
use Rattle.std.proofs.Common.{◌-◌, ◌≤◌, ◌≡◌, length, drop}
use Rattle.flow.specs.ContinuationMachine.{closerStart, closedAt}
use Rattle.flow.proofs.ContinuationTurn.{seen}
use Rattle.flow.proofs.html_flow.find_closer.Given as goal

abbrev pub invariant-loop-i : goal.invariant-loop-i
invariant-loop-i l = (seen l.kind l.name ≤ l.i) × (l.mark ≡ closerStart l.kind) × (closedAt l.rules l.kind l.name l.i (drop l.i l.line) ≡ closedAt l.rules l.kind l.initial.name 0 l.line)

abbrev pub decreases-loop-i : goal.decreases-loop-i
decreases-loop-i l = length l.line - l.i
