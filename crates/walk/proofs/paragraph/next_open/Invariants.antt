use Rattle.std.proofs.Common.{◌≡◌, ◌+◌, false, drop}
use Rattle.walk.specs.Remaining.{untried}
use Rattle.walk.proofs.paragraph.next_open.Given as goal

abbrev pub invariant-loop-i : goal.invariant-loop-i
invariant-loop-i l = l.i + untried l.odd (drop l.i l.text) ≡ l.index + untried false (drop l.index l.text)
