-- Laws of sameBytes: strings of unlike length and of one length; and that it decides equality.
use Rattle.std.proofs.Common.{◌≡◌, ℕ, suc, true, false, ◌&&◌, eqb, List, [], ◌∷◌, map, length, refl, ap, arith, eqb-true}
use Rattle.std.proofs.lemmas.Bool.{and_parts}
use Rattle.std.proofs.Math.Bool.{and-false}
use Rattle.std.specs.List.{zip, list_all}
use Rattle.lexical.specs.Name.{sameBytes}

pub same-unlike : (xs ys : List ℕ) → (length xs ≡ length ys → ⊥) → sameBytes xs ys ≡ false
unfolding sameBytes
same-unlike [] [] h = absurd (h refl)
same-unlike [] (y ∷ ys) h = refl
same-unlike (x ∷ xs) [] h = refl
same-unlike (x ∷ xs) (y ∷ ys) h = rw (same-unlike xs ys (λ e. h (ap suc e))) (and-false (eqb x y))

-- strings of one length are the same where each byte of the first, read through f, is that of the second
pub same-zip : (f : ℕ → ℕ) (xs ys : List ℕ) → length xs ≡ length ys → list_all (λ p. eqb (f p.0) p.1) (zip xs ys) ≡ sameBytes (map f xs) ys
unfolding sameBytes
same-zip f [] [] h = refl
same-zip f [] (y ∷ ys) h = absurd (omega arith)
same-zip f (x ∷ xs) [] h = absurd (omega arith)
same-zip f (x ∷ xs) (y ∷ ys) h = ap (λ b. eqb (f x) y && b) (same-zip f xs ys (omega arith))

pub same-equal : (xs ys : List ℕ) → sameBytes xs ys ≡ true → xs ≡ ys
unfolding sameBytes
same-equal [] [] e = refl
same-equal [] (y ∷ ys) e = cc
same-equal (x ∷ xs) [] e = cc
same-equal (x ∷ xs) (y ∷ ys) e =
    let p : x ≡ y = eqb-true x y (and_parts (eqb x y) (sameBytes xs ys) e).0 in
    let q : xs ≡ ys = same-equal xs ys (and_parts (eqb x y) (sameBytes xs ys) e).1 in
    cc
