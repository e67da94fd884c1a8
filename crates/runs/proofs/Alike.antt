-- Two texts that differ behind a `<`, the opening of a private body, up to a common rest q: what is left of them at any place is ahead of the opening in both,
-- or behind the body and the same. No class of bytes that a grammar passes holds `<`, so both are passed alike up to it; what is behind it is met only inside
-- quotation marks or on the way to a closer, and there the two are alike by assumption.
use Rattle.std.proofs.Common.{◌≡◌, refl, ap, Bool, true, false, ◌&&◌, not, List, [], ◌∷◌, ◌++◌, ℕ, suc, ◌≤◌, arith, eqb, length, take, drop, length-drop}
use Rattle.std.proofs.lemmas.Bool.{and_parts}
use borrow.Author.Tests.{not-true}
use Rattle.lexical.specs.Text.{byte, first, run}
use Rattle.lexical.specs.Byte.{isQuote, isSpaceOrTab}
use Rattle.lexical.specs.Line.{isBlank, atLineEnd}
use Rattle.lexical.specs.Name.{all}
use Rattle.lexical.proofs.Cases.{split, clash}
use Rattle.rules.specs.Search.{begins, past, Left, left, nothing, throughFirst}
use Rattle.rules.specs.Private.{Form, closer}
use Rattle.rules.proofs.Past.{past-run, past-length}

-- what is left is no more than q
abbrev pub AtMost : List ℕ → Left → Type 0
AtMost q (left s) = length s ≤ length q
AtMost q nothing = Unit {0}

-- behind `<` stand w₁ and w₂, each of which ends in q
pub record Alike (w₁ w₂ q : List ℕ) : Type 0 where
  pub quoted₁ : (m : ℕ) → isQuote m ≡ true → past (λ b. not (eqb b m)) (byte "<" ∷ w₁) ≡ past (λ b. not (eqb b m)) q
  pub quoted₂ : (m : ℕ) → isQuote m ≡ true → past (λ b. not (eqb b m)) (byte "<" ∷ w₂) ≡ past (λ b. not (eqb b m)) q
  pub through : (g : Form) → throughFirst (closer g) (byte "<" ∷ w₁) ≡ throughFirst (closer g) (byte "<" ∷ w₂)
  pub through-most : (g : Form) → AtMost q (throughFirst (closer g) (byte "<" ∷ w₂))

-- what is left of the one and of the other
pub data Pair (w₁ w₂ q : List ℕ) : List ℕ → List ℕ → Type 0 where
  ahead : (u : List ℕ) → Pair w₁ w₂ q (u ++ (byte "<" ∷ w₁)) (u ++ (byte "<" ∷ w₂))
  behind : (s : List ℕ) → length s ≤ length q → Pair w₁ w₂ q s s

pub data Lefts (w₁ w₂ q : List ℕ) : Left → Left → Type 0 where
  lefts : {s t : List ℕ} → Pair w₁ w₂ q s t → Lefts w₁ w₂ q (left s) (left t)
  nothings : Lefts w₁ w₂ q nothing nothing

-- by the first byte
pub data View (w₁ w₂ q : List ℕ) : List ℕ → List ℕ → Type 0 where
  at-end : View w₁ w₂ q [] []
  at-opening : View w₁ w₂ q (byte "<" ∷ w₁) (byte "<" ∷ w₂)
  at-byte : (x : ℕ) {s t : List ℕ} → Pair w₁ w₂ q s t → View w₁ w₂ q (x ∷ s) (x ∷ t)

-- no `<` among these bytes
abbrev pub angleless : List ℕ → Bool
angleless p = all (λ b. not (eqb (byte "<") b)) p

module _ {w₁ w₂ q : List ℕ} where
  pub view : {s t : List ℕ} → Pair w₁ w₂ q s t → View w₁ w₂ q s t
  view (ahead []) = at-opening
  view (ahead (x ∷ u)) = at-byte x (ahead u)
  view (behind [] l) = at-end
  view (behind (x ∷ s) l) = at-byte x (behind s (omega arith))

  pub same-lefts : (a : Left) → AtMost q a → Lefts w₁ w₂ q a a
  same-lefts (left s) h = lefts (behind s h)
  same-lefts nothing h = nothings

  pub first-same : {s t : List ℕ} → Pair w₁ w₂ q s t → first s ≡ first t
  first-same (ahead []) = refl
  first-same (ahead (x ∷ u)) = refl
  first-same (behind s l) = refl

  -- behind a class without `<`
  pub past-pair : (g : ℕ → Bool) → g (byte "<") ≡ false → {s t : List ℕ} → Pair w₁ w₂ q s t → Pair w₁ w₂ q (past g s) (past g t)
  unfolding past
  past-pair g e (ahead []) = rw e (ahead [])
  past-pair g e (ahead (x ∷ u)) = split (g x) (λ h. rw h (past-pair g e (ahead u))) (λ h. rw h (ahead (x ∷ u)))
  past-pair g e (behind s l) = behind (past g s) (omega (arith, past-length g s))

  -- the bytes of a class without `<` in front
  pub name-same : (g : ℕ → Bool) → g (byte "<") ≡ false → {s t : List ℕ} → Pair w₁ w₂ q s t → take (run g s) s ≡ take (run g t) t
  unfolding run
  name-same g e (ahead []) = rw e
  name-same g e (ahead (x ∷ u)) = split (g x) (λ h. rw h (ap (λ (l : List ℕ). x ∷ l) (name-same g e (ahead u)))) (λ h. rw h)
  name-same g e (behind s l) = refl

  pub run-same : (g : ℕ → Bool) → g (byte "<") ≡ false → {s t : List ℕ} → Pair w₁ w₂ q s t → run g s ≡ run g t
  unfolding run
  run-same g e (ahead []) = rw e
  run-same g e (ahead (x ∷ u)) = split (g x) (λ h. rw h (ap suc (run-same g e (ahead u)))) (λ h. rw h)
  run-same g e (behind s l) = refl

  -- a string without `<` in front
  pub begins-same : (p : List ℕ) → angleless p ≡ true → {s t : List ℕ} → Pair w₁ w₂ q s t → begins p s ≡ begins p t
  unfolding all
  begins-same [] e r = refl
  begins-same (c ∷ p) e (ahead []) = rw (not-true (eqb (byte "<") c) (and_parts (not (eqb (byte "<") c)) (angleless p) e).0)
  begins-same (c ∷ p) e (ahead (x ∷ u)) = rw (begins-same p (and_parts (not (eqb (byte "<") c)) (angleless p) e).1 (ahead u))
  begins-same (c ∷ p) e (behind s l) = refl

  pub drop-pair : (p : List ℕ) → angleless p ≡ true → {s t : List ℕ} → begins p s ≡ true → Pair w₁ w₂ q s t → Pair w₁ w₂ q (drop (length p) s) (drop (length p) t)
  unfolding all
  drop-pair [] e h r = r
  drop-pair (c ∷ p) e h (ahead []) =
      clash (eqb (byte "<") c && begins p w₁) h (rw (not-true (eqb (byte "<") c) (and_parts (not (eqb (byte "<") c)) (angleless p) e).0))
  drop-pair (c ∷ p) e h (ahead (x ∷ u)) =
      drop-pair p (and_parts (not (eqb (byte "<") c)) (angleless p) e).1 (and_parts (eqb x c) (begins p (u ++ (byte "<" ∷ w₁))) h).1 (ahead u)
  drop-pair (c ∷ p) e h (behind s l) = behind (drop (length (c ∷ p)) s) (omega (arith, length-drop (length (c ∷ p)) s))

  -- a line's end, and one behind blanks
  pub end-same : {s t : List ℕ} → Pair w₁ w₂ q s t → atLineEnd s ≡ atLineEnd t
  end-same (ahead []) = refl
  end-same (ahead (x ∷ u)) = refl
  end-same (behind s l) = refl

  pub blank-same : {s t : List ℕ} → Pair w₁ w₂ q s t → isBlank s ≡ isBlank t
  unfolding isBlank
  blank-same {s} {t} r = rw (← past-run isSpaceOrTab s, ← past-run isSpaceOrTab t) (end-same (past-pair isSpaceOrTab refl r))
