use Rattle.std.proofs.Common.{◌≡◌, sym, ap, ◌∙◌}
use Rattle.lexical.specs.Text.{pick}
use Rattle.html.proofs.Kept.{either-carry}
use Rattle.reader.proofs.html_text.inline_at.Goals.{then-rules, else-rules}
use Rattle.reader.proofs.html_text.inline_at.Goals as goal

pub returns : goal.returns
returns c h = let a = c.args in
    let size : c.if-rules.size ≡ pick a.rules.t2 a.carry 0 = elim c.if-rules.branch [ then-rules w ↦ w.size-is ∙ ap (λ b. pick b a.carry 0) (sym w.if-rules.true) | else-rules w ↦ w.size-is ∙ ap (λ b. pick b a.carry 0) (sym w.if-rules.false) ] in
    c.keep.ensures ∙ either-carry a.rules a.text.now a.index a.carry _ _ c.run.ensures size h
