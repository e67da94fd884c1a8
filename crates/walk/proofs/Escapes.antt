-- Runs of backslashes at the end of a text, counted from its last byte back: a backslash turns what stands in front of it, and any other byte ends the run.
use Rattle.std.proofs.Common.{◌≡◌, ℕ, suc, ◌%◌, Bool, true, false, not, eqb, List, [], ◌∷◌, ◌++◌, length, sym, refl, ap, ◌∙◌, arith, ne_eqb, eq-eqb, eqb-true}
use Rattle.std.specs.Prelude.{reverse}
use Rattle.std.specs.List.{take_while}
use Rattle.std.proofs.lemmas.Bool.{eqb-false}
use Rattle.std.proofs.lemmas.List.{reverse-append, reverse-reverse}
use Rattle.std.proofs.lemmas.List.Sums.{take_while-cons}
use Rattle.lexical.specs.Text.{byte}
use Rattle.lexical.proofs.Cases.{split}
use Rattle.rules.specs.Withhold.{oddBehind}
use Rattle.walk.specs.Remaining.{oddAfter}

abbrev isBackslash : ℕ → Bool
isBackslash b = eqb b (byte "\\")

abbrev isOdd : ℕ → Bool
isOdd n = eqb (n % 2) 1

one-more : (n : ℕ) → not (isOdd n) ≡ isOdd (suc n)
one-more n =
    split (isOdd n) (λ h. let e = eqb-true (n % 2) 1 h in rw (h, ne_eqb (suc n % 2) 1 (λ z. omega (arith, e, z))))
    (λ h.
    let e = eqb-false (n % 2) 1 h in
    let z : suc n % 2 ≡ 1 = omega (arith, e) in rw (h, eq-eqb (suc n % 2) 1 z))

after-last : (odd : Bool) (s : List ℕ) (x : ℕ) → oddAfter odd (s ++ x ∷ []) ≡ oddBehind (oddAfter odd s) x
unfolding oddAfter
after-last odd [] x = refl
after-last odd (y ∷ s) x = after-last (oddBehind odd y) s x

back : (s : List ℕ) → oddAfter false (reverse s) ≡ isOdd (length (take_while isBackslash s))
unfolding oddAfter
back [] = refl
back (x ∷ s) =
    let run = take_while isBackslash s in
    ap (oddAfter false) (reverse-append (x ∷ []) s)
    ∙ after-last false (reverse s) x
    ∙ ap (λ b. oddBehind b x) (back s)
    ∙ split (isBackslash x) (λ h. rw h (one-more (length run))) (λ h. rw h refl)
    ∙ ap (λ t. isOdd (length t)) (sym (take_while-cons isBackslash x s))

ends-odd : (s : List ℕ) → oddAfter false s ≡ isOdd (length (take_while isBackslash (reverse s)))
ends-odd s = ap (oddAfter false) (sym (reverse-reverse s)) ∙ back (reverse s)

-- the run at the end of s, which the code has as t, is n backslashes long
module _ (s t : List ℕ) (n : ℕ) (e : t ≡ s) (h : n ≡ length (take_while isBackslash (reverse t))) where
  by-length : oddAfter false s ≡ isOdd n
  by-length = ap (oddAfter false) (sym e) ∙ ends-odd t ∙ ap isOdd (sym h)

  pub odd-run : n % 2 ≡ 1 → oddAfter false s ≡ true
  odd-run o = by-length ∙ eq-eqb (n % 2) 1 o

  pub even-run : (n % 2 ≡ 1 → ⊥) → oddAfter false s ≡ false
  even-run o = by-length ∙ ne_eqb (n % 2) 1 o
