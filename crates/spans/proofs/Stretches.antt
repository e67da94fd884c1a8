-- Laws of a stretch: of spans that are not refused, and of others.
use Rattle.lexical.proofs.Cases.{split}
use Rattle.std.proofs.Common.{◌≡◌, refl, sym, ◌∙◌, ap, List, ℕ, ◌+◌, ◌-◌, ◌≤◌, arith, eqb, length, take, drop, eqb-true, ne_eqb}
use Rattle.rules.specs.Refusal.{refusalNumber}
use Rattle.rules.specs.Spans.{spansRefusal, part, partOf, stretchPart, stretch, partBytes}
use Rattle.rules.specs.declared.refusal.Refusal.{Refusal}
use Rattle.rules.proofs.Refusals.{refusal-positive}
use Rattle.runs.proofs.Spans.{shows-spans}

module _ (text spans : List ℕ) (n : ℕ) where
  pub good-part : 0 ≡ spansRefusal text spans → partOf n 0 (length text) spans ≡ stretchPart text spans n
  unfolding stretchPart
  good-part z = rw (sym z) refl

  pub no-part : (r : Refusal) → refusalNumber r ≡ spansRefusal text spans → part 0 0 ≡ stretchPart text spans n
  unfolding stretchPart
  no-part r e = rw (sym e, ne_eqb (refusalNumber r) 0 (refusal-positive r)) refl

  -- a stretch is a part of the bulletin
  pub part-fits : (stretchPart text spans n).start + (stretchPart text spans n).size ≤ length text
  unfolding stretchPart
  part-fits = split (eqb (spansRefusal text spans) 0) (λ h. (shows-spans text spans (eqb-true (spansRefusal text spans) 0 h)).within n) (λ h. rw h (omega arith))

  pub part-bytes : (start size : ℕ) → part start size ≡ stretchPart text spans n → take (start + size - start) (drop start text) ≡ stretch text spans n
  unfolding stretch
  part-bytes start size e =
      let z : start + size - start ≡ size = omega arith in
      ap (λ k. take k (drop start text)) z ∙ ap (partBytes text) e
