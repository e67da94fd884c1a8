-- A table's rule: one test that is computed over the whole, and what it says of each entry, and of a part.
use Rattle.std.proofs.Common.{◌≡◌, ℕ, zero, suc, ◌+◌, ◌<◌, Bool, true, List, [], ◌∷◌, length, get_or, take, drop, refl, le_of_suc-le-suc, not-suc-le-zero, add-one, arith}
use Rattle.std.proofs.lemmas.Bool.{and_parts}
use Rattle.lexical.specs.Name.{all, chain}

module _ {A : Type 0} (d : A) where
  pub all-at : (f : A → Bool) (xs : List A) → all f xs ≡ true → (k : ℕ) → k < length xs → f (get_or xs k d) ≡ true
  unfolding all
  all-at f [] e k h = absurd (not-suc-le-zero h)
  all-at f (x ∷ xs) e zero h = (and_parts (f x) (all f xs) e).0
  all-at f (x ∷ xs) e (suc k) h = all-at f xs (and_parts (f x) (all f xs) e).1 k (le_of_suc-le-suc h)

  chain-suc : (f : A → A → Bool) (xs : List A) → chain f xs ≡ true → (k : ℕ) → suc k < length xs → f (get_or xs k d) (get_or xs (suc k) d) ≡ true
  unfolding chain
  chain-suc f [] e k h = absurd (not-suc-le-zero h)
  chain-suc f (x ∷ []) e k h = absurd (omega arith)
  chain-suc f (x ∷ y ∷ rest) e zero h = (and_parts (f x y) (chain f (y ∷ rest)) e).0
  chain-suc f (x ∷ y ∷ rest) e (suc k) h = chain-suc f (y ∷ rest) (and_parts (f x y) (chain f (y ∷ rest)) e).1 k (le_of_suc-le-suc h)

  pub chain-at : (f : A → A → Bool) (xs : List A) → chain f xs ≡ true → (k : ℕ) → k + 1 < length xs → f (get_or xs k d) (get_or xs (k + 1) d) ≡ true
  chain-at f xs e k h = rw add-one (chain-suc f xs e k (omega arith))

-- and so does what stands behind its first
pub chain-tail : {A : Type 0} (f : A → A → Bool) (x : A) (xs : List A) → chain f (x ∷ xs) ≡ true → chain f xs ≡ true
unfolding chain
chain-tail f x [] e = refl
chain-tail f x (y ∷ ys) e = (and_parts (f x y) (chain f (y ∷ ys)) e).1

-- a part of a list that passes a test passes it
module _ {A : Type 0} where
  all-drop : (f : A → Bool) (k : ℕ) (xs : List A) → all f xs ≡ true → all f (drop k xs) ≡ true
  unfolding all
  all-drop f zero xs e = e
  all-drop f (suc k) [] e = e
  all-drop f (suc k) (x ∷ xs) e = all-drop f k xs (and_parts (f x) (all f xs) e).1

  all-take : (f : A → Bool) (m : ℕ) (xs : List A) → all f xs ≡ true → all f (take m xs) ≡ true
  unfolding all
  all-take f zero xs e = refl
  all-take f (suc m) [] e = e
  all-take f (suc m) (x ∷ xs) e = rw (and_parts (f x) (all f xs) e).0 (all-take f m xs (and_parts (f x) (all f xs) e).1)

  pub all-part : (f : A → Bool) (k m : ℕ) (xs : List A) → all f xs ≡ true → all f (take m (drop k xs)) ≡ true
  all-part f k m xs e = all-take f m (drop k xs) (all-drop f k xs e)

  chain-drop : (f : A → A → Bool) (k : ℕ) (xs : List A) → chain f xs ≡ true → chain f (drop k xs) ≡ true
  chain-drop f zero xs e = e
  chain-drop f (suc k) [] e = e
  chain-drop f (suc k) (x ∷ xs) e = chain-drop f k xs (chain-tail f x xs e)

  chain-take : (f : A → A → Bool) (m : ℕ) (xs : List A) → chain f xs ≡ true → chain f (take m xs) ≡ true
  unfolding chain
  chain-take f zero xs e = refl
  chain-take f (suc m) [] e = e
  chain-take f (suc zero) (x ∷ xs) e = refl
  chain-take f (suc (suc m)) (x ∷ []) e = e
  chain-take f (suc (suc m)) (x ∷ y ∷ rest) e =
      rw (and_parts (f x y) (chain f (y ∷ rest)) e).0 (chain-take f (suc m) (y ∷ rest) (and_parts (f x y) (chain f (y ∷ rest)) e).1)

  pub chain-part : (f : A → A → Bool) (k m : ℕ) (xs : List A) → chain f xs ≡ true → chain f (take m (drop k xs)) ≡ true
  chain-part f k m xs e = chain-take f m (drop k xs) (chain-drop f k xs e)
