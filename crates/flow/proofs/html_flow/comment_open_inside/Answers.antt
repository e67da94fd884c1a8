use Rattle.std.proofs.Common.{sym, refl, ◌∙◌}
use Rattle.flow.proofs.OpenSteps.{first-test, comment-first}
use Rattle.flow.proofs.html_flow.comment_open_inside.Goals as goal

pub returns-then-eq-clause-kind : goal.returns-then-eq-clause-kind
returns-then-eq-clause-kind c = let a = c.args in sym (comment-first _ ∙ rw (first-test c.peek.result a.line.now a.at c.peek.ensures 45 refl _ c.eq.ensures ∙ c.if-eq.true))

pub returns-clause-kind : goal.returns-clause-kind
returns-clause-kind c = let a = c.args in sym (comment-first _ ∙ rw (first-test c.peek.result a.line.now a.at c.peek.ensures 45 refl _ c.eq.ensures ∙ c.if-eq.false))
