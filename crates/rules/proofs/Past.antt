-- Laws of what is left behind a class, of a test that holds somewhere, and of where it first does.
use Rattle.std.proofs.Common.{◌≡◌, refl, Bool, true, false, ◌||◌, List, [], ◌∷◌, ℕ, ◌+◌, ◌<◌, ◌≤◌, arith, length, drop}
use Rattle.std.proofs.lemmas.List.{drop_all, drop_more}
use Rattle.lexical.specs.Text.{run}
use Rattle.lexical.proofs.Cases.{split}
use Rattle.lexical.proofs.Run.{behind-at, behind-from}
use Rattle.rules.specs.Search.{past, somewhere, before}

-- behind the run of a class
pub past-run : (f : ℕ → Bool) (s : List ℕ) → past f s ≡ drop (run f s) s
unfolding past run
past-run f [] = refl
past-run f (x ∷ xs) = split (f x) (λ h. simp h (past-run f xs)) (λ h. simp h)

pub past-none : (f : ℕ → Bool) (x : ℕ) (xs : List ℕ) → f x ≡ false → past f (x ∷ xs) ≡ x ∷ xs
unfolding past
past-none f x xs h = simp h

-- what holds at the end, and at a byte outside the class with no more left than there was, holds behind the class
pub past-cases : (P : List ℕ → Type 0) (f : ℕ → Bool) (s : List ℕ) → P []
    → ((x : ℕ) (xs : List ℕ) → f x ≡ false → length (x ∷ xs) ≤ length s → P (x ∷ xs)) → P (past f s)
unfolding past
past-cases P f [] nil cons = nil
past-cases P f (x ∷ xs) nil cons =
    split (f x) (λ h. simp h (past-cases P f xs nil (λ y ys e l. cons y ys e (omega arith)))) (λ h. simp h (cons x xs h (omega arith)))

pub past-length : (f : ℕ → Bool) (s : List ℕ) → length (past f s) ≤ length s
unfolding past
past-length f [] = omega arith
past-length f (x ∷ xs) = split (f x) (λ h. let l = past-length f xs in simp h (omega arith)) (λ h. simp h (omega arith))

-- a test somewhere behind an index
module _ (f : List ℕ → Bool) (s : List ℕ) (i : ℕ) where
  pub somewhere-in : i < length s → somewhere f (drop i s) ≡ (f (drop i s) || somewhere f (drop (i + 1) s))
  unfolding somewhere
  somewhere-in h = rw (drop_more s i 0 h)

  pub somewhere-out : length s ≤ i → somewhere f (drop i s) ≡ false
  unfolding somewhere
  somewhere-out h = rw (drop_all i s h)

  -- where it first holds from the index on
  abbrev pub firstFrom : ℕ
  firstFrom = i + before f (drop i s)

  pub first-here : i < length s → f (drop i s) ≡ true → firstFrom ≡ i
  unfolding before
  first-here h e = let t = rw (drop_more s i 0 h) at e in rw (drop_more s i 0 h, t) (omega arith)

  pub first-on : i < length s → f (drop i s) ≡ false → firstFrom ≡ i + 1 + before f (drop (i + 1) s)
  unfolding before
  first-on h e = let t = rw (drop_more s i 0 h) at e in rw (drop_more s i 0 h, t) (omega arith)

  pub first-out : length s ≤ i → firstFrom ≡ i
  unfolding before
  first-out h = rw (drop_all i s h) (omega arith)

-- a class of bytes at which the test does not hold can be passed over
module _ (g : ℕ → Bool) (f : List ℕ → Bool) (no : (x : ℕ) (xs : List ℕ) → g x ≡ true → f (x ∷ xs) ≡ false) where
  not-here : (x : ℕ) (xs : List ℕ) → g x ≡ true → somewhere f (x ∷ xs) ≡ somewhere f xs
  unfolding somewhere
  not-here x xs h = rw (no x xs h)

  pub somewhere-behind : (s : List ℕ) (i j : ℕ) → j ≡ i + run g (drop i s) → somewhere f (drop i s) ≡ somewhere f (drop j s)
  somewhere-behind = behind-at g (somewhere f) not-here

  not-first : (i x : ℕ) (xs : List ℕ) → g x ≡ true → i + before f (x ∷ xs) ≡ i + 1 + before f xs
  unfolding before
  not-first i x xs h = rw (no x xs h) (omega arith)

  pub first-behind : (s : List ℕ) (i j : ℕ) → j ≡ i + run g (drop i s) → firstFrom f s i ≡ firstFrom f s j
  first-behind = behind-from g (λ i s. i + before f s) not-first
