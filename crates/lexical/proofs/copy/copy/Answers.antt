use Rattle.std.proofs.Common.{length-set, sym, refl, ap, ◌∙◌, add-zero}
use Rattle.lexical.specs.Buffer.{stored}
use Rattle.lexical.proofs.Stores.{copy-turn, copy-end}
use Rattle.lexical.proofs.copy.copy.Goals as goal

pub loop-i-init : goal.loop-i-init
loop-i-init c = let a = c.args in (refl, ap (λ n. stored a.out.now n a.part.now) (add-zero a.at))

pub loop-i-preserved : goal.loop-i-preserved
loop-i-preserved c = let a = c.args in
    (length-set c.loop-i.out _ _ ∙ c.loop-i.invariant.0, copy-turn c.loop-i.out a.part.now a.at c.loop-i.i c.loop-i-test.true ∙ c.loop-i.invariant.1)

pub returns : goal.returns
returns c = let a = c.args in
    record { is = sym (copy-end c.loop-i.out a.part.now a.at c.loop-i.i c.loop-i-test.false) ∙ c.loop-i.invariant.1 }
