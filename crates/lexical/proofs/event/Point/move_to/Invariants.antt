use Rattle.std.proofs.Common.{◌≡◌, ◌-◌, drop}
use Rattle.lexical.specs.Point.{movedBy}
use Rattle.lexical.proofs.event.Point.move_to.Given as goal

abbrev pub invariant-loop-i : goal.invariant-loop-i
invariant-loop-i l = movedBy (l.index - l.i) l.point (drop l.i l.bytes) ≡ movedBy (l.index - l.fn.self.index) l.fn.self (drop l.fn.self.index l.bytes)
