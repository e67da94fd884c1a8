use Rattle.flow.specs.Answer.{openingNumber, openingName}
use Rattle.flow.proofs.BlockSteps.{next-flags, text-over, same-from, line-ends, line-closes, line-on}
use Rattle.std.proofs.Common.{Some, sym, ◌∙◌}
use Rattle.flow.proofs.html_flow.continuation_start.Goals as goal

pub returns-then-from-stop : goal.returns-then-from-stop
returns-then-from-stop c = let a = c.args in c.continuation_after.ensures ∙ sym (same-from a.rules (openingNumber (Some a.opening)) (openingName (Some a.opening)) a.bulletin.now a.flags.now c.loop-stop.stop c.loop-stop.number _ c.continuation_start_non_lazy-from.ensures c.if-from-stop.true) ∙ c.loop-stop.invariant

pub returns-then-ends_before : goal.returns-then-ends_before
returns-then-ends_before c = let a = c.args in
    c.continuation_after-then-ends_before.ensures
    ∙ sym (line-ends a.rules (openingNumber (Some a.opening)) (openingName (Some a.opening)) a.bulletin.now a.flags.now c.loop-stop.stop c.loop-stop.number _ _ _ c.continuation_start_non_lazy-from.ensures c.continuation_before-content.ensures c.flag_at.ensures c.if-from-stop.false
    (sym c.ends_before.ensures ∙ c.if-ends_before.true))
    ∙ c.loop-stop.invariant

pub returns-then-at-content : goal.returns-then-at-content
returns-then-at-content c = let a = c.args in
    c.continuation_after-then-at-content.ensures
    ∙ sym (line-closes a.rules (openingNumber (Some a.opening)) (openingName (Some a.opening)) a.bulletin.now a.flags.now c.loop-stop.stop c.loop-stop.number _ _ _ c.continuation_start_non_lazy-from.ensures c.continuation_before-content.ensures c.flag_at.ensures c.if-from-stop.false
    (sym c.ends_before.ensures ∙ c.if-ends_before.false) _ c.before_closer-at.ensures c.if-at-content.true)
    ∙ c.loop-stop.invariant

pub loop-stop-preserved : goal.loop-stop-preserved
loop-stop-preserved c = let a = c.args in
    sym (line-on a.rules (openingNumber (Some a.opening)) (openingName (Some a.opening)) a.bulletin.now a.flags.now c.loop-stop.stop c.loop-stop.number _ _ _ c.continuation_start_non_lazy-from.ensures c.continuation_before-content.ensures c.flag_at.ensures c.if-from-stop.false
    (sym c.ends_before.ensures ∙ c.if-ends_before.false) _ c.before_closer-at.ensures c.if-at-content.false _ (next-flags a.flags.now _ _ c.next_number-number.ensures))
    ∙ c.loop-stop.invariant

pub returns : goal.returns
returns c = let a = c.args in c.continuation_after-2.ensures ∙ sym (text-over a.rules (openingNumber (Some a.opening)) (openingName (Some a.opening)) a.bulletin.now a.flags.now _ _ c.loop-stop-test.false) ∙ c.loop-stop.invariant
