use Rattle.std.proofs.Common.{sym, refl, ◌∙◌, ◌+◌}
use Rattle.flow.proofs.OpenSteps.{asked-there, first-test, self-in, self-other}
use Rattle.flow.proofs.NameSteps.{block-named}
use Rattle.flow.proofs.html_flow.basic_self_closing.Goals.{else-eq-via-then-eq+else-eq-2, else-eq-via-else-eq}
use Rattle.flow.proofs.html_flow.basic_self_closing.Goals as goal

pub returns-then-eq-2 : goal.returns-then-eq-2
returns-then-eq-2 c = let a = c.args in
    let slash = asked-there c.peek.result a.line.now a.at c.peek.ensures 47 refl _ c.eq.ensures c.if-eq.true in
    let mark = first-test c.peek-then-eq.result a.line.now (a.at + 1) c.peek-then-eq.ensures 62 refl _ c.eq-then-eq.ensures ∙ c.if-eq-2.true in
    record { kind = sym (self-in _ _ slash ∙ rw mark); names_basic = λ n e. block-named _ n e }

pub returns-clause-kind : goal.returns-clause-kind
returns-clause-kind c = let a = c.args in elim c.else-eq.branch [
  | else-eq-via-then-eq+else-eq-2 w ↦
      (let slash = asked-there c.peek.result a.line.now a.at c.peek.ensures 47 refl _ c.eq.ensures w.if-eq.true in
      sym (self-in _ _ slash ∙ rw (first-test w.peek-then-eq.result a.line.now (a.at + 1) w.peek-then-eq.ensures 62 refl _ w.eq-then-eq.ensures ∙ w.if-eq-2.false)))
  | else-eq-via-else-eq w ↦ sym (self-other _ (first-test c.peek.result a.line.now a.at c.peek.ensures 47 refl _ c.eq.ensures ∙ w.if-eq.false))
]
