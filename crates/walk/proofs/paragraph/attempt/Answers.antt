use Rattle.std.proofs.Common.{sym, ◌∙◌, ap, subst}
use Rattle.html.specs.Answer.{stopping}
use Rattle.walk.specs.Closer.{formOf, isAhead, without}
use Rattle.walk.specs.Remaining.{Lacked}
use Rattle.walk.proofs.Forms.{rest-is}
use Rattle.walk.proofs.InlineSteps.{not-read, took, lacked}
use Rattle.walk.proofs.paragraph.attempt.Goals as goal

pub returns-then-not-is_ahead : goal.returns-then-not-is_ahead
returns-then-not-is_ahead c known = let a = c.args in
    not-read a.rules a.text.now a.index c.requires a.closers known
    (ap (isAhead a.closers) (sym (ap formOf (rest-is a.text.now a.index))) ∙ sym c.asked-form.ensures.ahead ∙ sym c.is_ahead.ensures ∙ c.if-not-is_ahead.true)

pub returns-in-Some : goal.returns-in-Some
returns-in-Some c known = let a = c.args in let r = c.inline_at.result in
    took a.rules a.text.now a.index c.requires _ _ (sym (ap (λ t. stopping t r.carry) c.in-Some.is) ∙ c.inline_at.ensures)

pub returns-in-None : goal.returns-in-None
returns-in-None c known = let a = c.args in let r = c.inline_at.result in
    subst (Lacked a.rules a.text.now a.index) (sym (c.missed.ensures ∙ ap (without a.closers) (ap formOf (rest-is a.text.now a.index))))
    (lacked a.rules a.text.now a.index c.requires a.closers _ (sym (ap (λ t. stopping t r.carry) c.in-None.is) ∙ c.inline_at.ensures) known)
