-- The standard's words on strings: begins with, the first occurrence of, what is left after it.
use Rattle.std.specs.Prelude.{ℕ, suc, Bool, true, false, ◌&&◌, ◌||◌, List, [], ◌∷◌, eqb, length, drop}

-- one of two; the other is not computed
abbrev pub choose : {A : Type 0} → Bool → (Unit {0} → A) → (Unit {0} → A) → A
choose true a b = a tt
choose false a b = b tt

-- s begins with p
abbrev pub begins : List ℕ → List ℕ → Bool
begins [] s = true
begins (p ∷ ps) [] = false
begins (p ∷ ps) (x ∷ xs) = eqb x p && begins ps xs

-- a test holds of some suffix of s that has a byte
unfoldable pub somewhere : (List ℕ → Bool) → List ℕ → Bool
somewhere f [] = false
somewhere f (x ∷ xs) = f (x ∷ xs) || somewhere f xs

-- how many bytes stand before the first such suffix; all, where there is none
unfoldable pub before : (List ℕ → Bool) → List ℕ → ℕ
before f [] = 0
before f (x ∷ xs) = choose (f (x ∷ xs)) (λ _. 0) (λ _. suc (before f xs))

-- what is left behind all bytes of a class
unfoldable pub past : (ℕ → Bool) → List ℕ → List ℕ
past f [] = []
past f (x ∷ xs) = choose (f x) (λ _. past f xs) (λ _. x ∷ xs)

-- what is left behind something that was looked for; or it is not there
pub data Left : Type 0 where
  left : List ℕ → Left
  nothing : Left

-- behind one, or where that is not there behind the other
abbrev pub orElse : Left → (Unit {0} → Left) → Left
orElse (left s) other = left s
orElse nothing other = other tt

-- behind p in front of s
abbrev pub exactly : List ℕ → List ℕ → Left
exactly p s = choose (begins p s) (λ _. left (drop (length p) s)) (λ _. nothing)

-- behind the first occurrence of p
unfoldable pub throughFirst : List ℕ → List ℕ → Left
throughFirst p [] = nothing
throughFirst p (x ∷ xs) = choose (begins p (x ∷ xs)) (λ _. left (drop (length p) (x ∷ xs))) (λ _. throughFirst p xs)

-- behind an opening, a string that does not include the closer, and the closer
abbrev pub between : List ℕ → List ℕ → List ℕ → Left
between opening closer s = choose (begins opening s) (λ _. throughFirst closer (drop (length opening) s)) (λ _. nothing)
