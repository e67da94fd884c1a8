use Rattle.std.proofs.Common.{sym, refl, ◌∙◌, true, false}
use Rattle.flow.proofs.OpenSteps.{first-some, first-none, close-in}
use Rattle.flow.proofs.html_flow.tag_close_start.Goals as goal

pub returns-in-Some-clause-kind : goal.returns-in-Some-clause-kind
returns-in-Some-clause-kind c = let a = c.args in
    c.tag_name.ensures.kind ∙ sym (close-in a.rules a.flag _ _ true (first-some _ a.line.now a.at c.peek.ensures _ c.in-Some.is) (sym c.is_letter.ensures ∙ c.if-is_letter.true))

pub returns-in_default-clause-kind : goal.returns-in_default-clause-kind
returns-in_default-clause-kind c = let a = c.args in
    sym (close-in a.rules a.flag _ _ false (first-some _ a.line.now a.at c.peek.ensures _ c.in-Some.is) (sym c.is_letter.ensures ∙ c.if-is_letter.false))

pub returns-in_default-2-clause-kind : goal.returns-in_default-2-clause-kind
returns-in_default-2-clause-kind c = let a = c.args in sym (close-in a.rules a.flag _ _ false (first-none _ a.line.now a.at c.peek.ensures c.in_default.is) refl)
