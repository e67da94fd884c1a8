use Rattle.std.proofs.Common.{◌+◌, ◌-◌, refl, sym, ◌∙◌, ap, arith, rules}
use Rattle.flow.proofs.ContinuationTurn.{closer-on, closer-here, closer-out, closer-behind, seen-turn, closer-read}
use Rattle.flow.proofs.html_flow.find_closer.Goals as goal

pub loop-i-init : goal.loop-i-init
loop-i-init c = let m = c.closer_start-mark.ensures in (omega arith, m, sym (closer-behind _ _ _ _ refl m _ 0 _ c.mark_or_line_end-i.ensures))

pub overflow_sub-result : goal.overflow_sub-result
overflow_sub-result c = let a = c.args in
    let h = closer-read a.rules a.kind c.loop-i.name c.loop-i.i _ _ c.loop-i.invariant.0 c.continuation_step-name.ensures (sym c.is_close.ensures ∙ c.if-is_close.true) in
    search (rules, h, c.closer_length.ensures)

pub returns-then-is_close : goal.returns-then-is_close
returns-then-is_close c = let l = c.loop-i in
    ap (λ n. l.i + 1 - n) c.closer_length.ensures
    ∙ sym (closer-here _ _ _ _ _ _ c.loop-i-test.true c.continuation_step-name.ensures (sym c.is_close.ensures ∙ c.if-is_close.true)) ∙ l.invariant.2

pub loop-i-smaller-then-is_continuation : goal.loop-i-smaller-then-is_continuation
loop-i-smaller-then-is_continuation c = search (rules, c.mark_or_line_end-i-then-is_continuation.ensures)

pub loop-i-preserved-then-is_continuation : goal.loop-i-preserved-then-is_continuation
loop-i-preserved-then-is_continuation c = let a = c.args in
    let v = c.loop-i.invariant in (
      omega (arith, seen-turn a.rules a.kind c.loop-i.name c.loop-i.i _ _ v.0 c.continuation_step-name.ensures, c.mark_or_line_end-i-then-is_continuation.ensures),
      v.1,
      sym (closer-behind _ _ _ _ (sym c.is_continuation.ensures ∙ c.if-is_continuation.true) v.1 _ _ _ c.mark_or_line_end-i-then-is_continuation.ensures)
          ∙ sym (closer-on _ _ _ _ _ _ c.loop-i-test.true c.continuation_step-name.ensures (sym c.is_close.ensures ∙ c.if-is_close.false)) ∙ v.2,
    )

pub loop-i-preserved : goal.loop-i-preserved
loop-i-preserved c = let a = c.args in
    let v = c.loop-i.invariant in (
      seen-turn a.rules a.kind c.loop-i.name c.loop-i.i _ _ v.0 c.continuation_step-name.ensures,
      v.1,
      sym (closer-on _ _ _ _ _ _ c.loop-i-test.true c.continuation_step-name.ensures (sym c.is_close.ensures ∙ c.if-is_close.false)) ∙ v.2,
    )

pub returns : goal.returns
returns c = sym (closer-out _ _ _ _ _ c.loop-i-test.false) ∙ c.loop-i.invariant.2
