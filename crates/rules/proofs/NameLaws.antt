-- A tag's name and what follows it are cut at the end of the name. Names of a list begin with a letter, so where no letter stands none of them does.
use Rattle.std.proofs.Common.{◌≡◌, refl, sym, ◌∙◌, ap, Bool, true, false, List, [], ◌∷◌, ℕ, ◌+◌, ◌-◌, arith, take, drop, drop-drop}
use Rattle.lexical.specs.Text.{first, run}
use Rattle.lexical.specs.Byte.{isLetter, isTagNameByte}
use Rattle.lexical.proofs.Cases.{split, clash}
use Rattle.rules.specs.Block.{nameOf, afterName}

module _ (line : List ℕ) (at end : ℕ) (ends : end ≡ at + run isTagNameByte (drop at line)) where
  pub name-cut : take (end - at) (drop at line) ≡ nameOf (drop at line)
  name-cut = let e : end - at ≡ run isTagNameByte (drop at line) = omega (arith, ends) in ap (λ (n : ℕ). take n (drop at line)) e

  pub after-cut : drop end line ≡ afterName (drop at line)
  after-cut = ap (λ (n : ℕ). drop n line) ends ∙ sym (drop-drop (run isTagNameByte (drop at line)) at line)

first-of-name : (s : List ℕ) → isLetter (first (nameOf s)) ≡ true → isLetter (first s) ≡ true
unfolding run
first-of-name [] h = h
first-of-name (x ∷ xs) h = split (isTagNameByte x) (λ b. rw b at h) (λ b. clash false (rw b at h) refl)

-- of a list whose names begin with a letter
module _ (isName : List ℕ → Bool) (letter : (n : List ℕ) → isName n ≡ true → isLetter (first n) ≡ true) where
  pub no-name : (s : List ℕ) → isLetter (first s) ≡ false → isName (nameOf s) ≡ false
  no-name s e = split (isName (nameOf s)) (λ r. clash (isLetter (first s)) (first-of-name s (letter (nameOf s) r)) e) (λ r. r)
