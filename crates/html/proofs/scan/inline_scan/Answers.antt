use Rattle.std.proofs.Common.{ℕ, ◌≤◌, ◌≡◌, List, [], ◌∷◌, refl, sym, ap, ◌∙◌, ltb-false, ne_eqb}
use Rattle.lexical.specs.Text.{pick}
use Rattle.rules.specs.Refusal.{tooLong, pastEnd, hasBlankLine, inlineRefusal, refusalNumber}
use Rattle.rules.specs.Scan.{refusedInline, inlineAt, inlineScan}
use Rattle.rules.specs.declared.Rules.{Rules}
use Rattle.rules.specs.declared.refusal.Refusal.{Refusal}
use Rattle.rules.proofs.Refusals.{not-met, refusal-positive, raised}
use Rattle.html.specs.Answer.{inlineScanOf}
use Rattle.html.proofs.Kept.{either-carry}
use Rattle.html.proofs.scan.inline_scan.Goals.{then-rules, else-rules}
use Rattle.html.proofs.scan.inline_scan.Goals as goal

module _ (ρ : Rules) (text : List ℕ) (i k : ℕ) where
  refuses : (r : Refusal) → refusalNumber r ≡ inlineRefusal text i k → inlineScan ρ text i k ≡ refusedInline (refusalNumber r) k
  unfolding inlineScan
  refuses r e = rw (← e, ne_eqb (refusalNumber r) 0 (refusal-positive r))

  answers : 0 ≡ inlineRefusal text i k → inlineScan ρ text i k ≡ inlineAt ρ text i k
  unfolding inlineScan
  answers e = rw (← e)

  small : 0 ≡ inlineRefusal text i k → k ≤ 5
  unfolding inlineRefusal
  small e = ltb-false 5 k (not-met (tooLong text ∷ pastEnd text i ∷ []) (hasBlankLine text ∷ []) _ 5 refl refl (sym e))

pub returns-in_err-check_inline : goal.returns-in_err-check_inline
returns-in_err-check_inline c = let a = c.args in
    ap (inlineScanOf a.carry) (raised c.from_residual.result c.from_residual.ensures.1)
    ∙ sym (refuses a.rules a.text.now a.index a.carry c.in_err-check_inline.field-0.0 c.in_err-check_inline.ensures)

pub returns : goal.returns
returns c = let a = c.args in
    let size : c.if-rules.size ≡ pick a.rules.t2 a.carry 0 = elim c.if-rules.branch [ then-rules w ↦ w.size-is ∙ ap (λ b. pick b a.carry 0) (sym w.if-rules.true) | else-rules w ↦ w.size-is ∙ ap (λ b. pick b a.carry 0) (sym w.if-rules.false) ] in
    c.keep.ensures
    ∙ either-carry a.rules a.text.now a.index a.carry _ _ c.run.ensures size
    (small a.rules a.text.now a.index a.carry c.in_ok-check_inline.ensures)
    ∙ sym (answers a.rules a.text.now a.index a.carry c.in_ok-check_inline.ensures)
