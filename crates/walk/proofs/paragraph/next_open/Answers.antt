use Rattle.std.proofs.Common.{false, sym, ◌∙◌, arith}
use Rattle.walk.proofs.InlineSteps.{untried-on, untried-here, untried-over}
use Rattle.walk.proofs.paragraph.next_open.Goals as goal

pub returns-then-byte-odd : goal.returns-then-byte-odd
returns-then-byte-odd c = omega (arith, c.loop-i.invariant, untried-here c.args.text.now c.loop-i.i c.loop-i.odd c.loop-i-test.true c.if-byte-odd.true)

pub loop-i-preserved : goal.loop-i-preserved
loop-i-preserved c = sym (untried-on c.args.text.now c.loop-i.i c.loop-i.odd c.loop-i-test.true c.if-byte-odd.false) ∙ c.loop-i.invariant

pub returns : goal.returns
returns c = let a = c.args in let at = c.loop-i in
    grind (arith, at.invariant, at.auto.i, at.auto.i-end, c.max.ensures, untried-over a.text.now at.i at.odd c.loop-i-test.false, untried-over a.text.now a.index false)
