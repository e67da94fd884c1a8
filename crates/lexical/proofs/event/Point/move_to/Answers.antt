use Rattle.std.proofs.Common.{◌+◌, ◌-◌, drop, sym, ap, ◌∙◌, arith}
use Rattle.lexical.specs.Point.{movedBy}
use Rattle.lexical.proofs.Moves.{turn, arrived}
use Rattle.lexical.proofs.event.Point.move_to.Goals as goal

pub loop-i-preserved : goal.loop-i-preserved
loop-i-preserved c = let a = c.args in let i = c.loop-i.i in
    ap (λ p. movedBy (a.index - (i + 1)) p (drop (i + 1) a.bytes.now)) c.move_past-point.ensures
    ∙ sym (turn c.loop-i.point a.bytes.now i a.index (omega (arith, c.min-i-end.ensures, c.loop-i-test.true)) (omega (arith, c.min-i-end.ensures, c.loop-i-test.true)))
    ∙ c.loop-i.invariant

pub returns : goal.returns
returns c = let a = c.args in
    sym (arrived c.loop-i.point a.bytes.now c.loop-i.i a.index (omega (arith, c.min-i-end.ensures, c.loop-i-test.false))) ∙ c.loop-i.invariant
