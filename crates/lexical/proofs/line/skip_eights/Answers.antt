use Rattle.std.proofs.Common.{◌≡◌, ◌+◌, ◌-◌, take, drop, sym, ap, ◌∙◌, arith}
use Rattle.lexical.specs.Line.{isInner}
use Rattle.lexical.specs.Name.{all}
use Rattle.lexical.proofs.Run.{run-many}
use Rattle.lexical.proofs.line.skip_eights.Goals as goal

pub loop-i-preserved : goal.loop-i-preserved
loop-i-preserved c = let a = c.args in let i = c.loop-i.i in
    let eight : i + 8 - i ≡ 8 = omega arith in
    let inner = ap (λ n. all (isInner a.mark) (take n (drop i a.bytes.now))) (sym eight) ∙ sym c.are_inner.ensures ∙ c.if-are_inner.true in
    run-many (isInner a.mark) 8 a.bytes.now i (omega (arith, c.saturating_sub.ensures, c.loop-i-test.true)) inner ∙ c.loop-i.invariant
