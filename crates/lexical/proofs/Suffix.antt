-- Laws of a text's suffix at an index: its first byte, and the suffix at the next index; and of the bytes between two indices.
use Rattle.std.proofs.Common.{◌≡◌, ℕ, zero, suc, ◌+◌, ◌-◌, ◌<◌, ◌≤◌, List, [], ◌∷◌, ◌++◌, length, get_or, take, drop, sym, refl, ap, ◌∙◌, arith, drop-drop, take-add}
use Rattle.std.proofs.lemmas.List.{drop_all, drop_more}
use lib.Seq.{take-nil}
use Rattle.lexical.specs.Text.{none, first}

module _ (s : List ℕ) (i : ℕ) where
  pub first-in : i < length s → first (drop i s) ≡ get_or s i 0
  first-in h = rw (drop_more s i 0 h)

  pub first-out : length s ≤ i → first (drop i s) ≡ none
  first-out h = rw (drop_all i s h)

-- the bytes between two indices are the front that ends at the second, from the first on
pub drop-take : (i n : ℕ) (s : List ℕ) → drop i (take n s) ≡ take (n - i) (drop i s)
drop-take zero n s = let z : n - 0 ≡ n = omega arith in rw z refl
drop-take (suc i) zero s = let z : zero - suc i ≡ 0 = omega arith in rw z refl
drop-take (suc i) (suc n) [] = sym (take-nil (suc n - suc i))
drop-take (suc i) (suc n) (x ∷ s) = let z : suc n - suc i ≡ n - i = omega arith in rw z (drop-take i n s)

-- a part and the part behind it
pub parts : (a b d : ℕ) (s : List ℕ) → a ≤ b → b ≤ d → take (b - a) (drop a s) ++ take (d - b) (drop b s) ≡ take (d - a) (drop a s)
parts a b d s h k =
    let m : d - a ≡ (b - a) + (d - b) = omega arith in
    let n : a + (b - a) ≡ b = omega arith in
    sym (ap (λ t. take t (drop a s)) m ∙ take-add (b - a) (d - b) (drop a s) ∙ ap (λ t. take (b - a) (drop a s) ++ take (d - b) t) (drop-drop (b - a) a s ∙ ap (λ t. drop t s) n))
