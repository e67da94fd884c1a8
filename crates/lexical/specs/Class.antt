-- A class of bytes as a closure tests it. It need not be believed: no public contract cites it.
use Rattle.std.specs.Prelude.{◌≡◌, ℕ, ◌+◌, Bool, List, drop}
use Rattle.lexical.specs.Text.{run}

-- the closure's results are a class
abbrev pub Tests : (ℕ → Bool → Type 0) → (ℕ → Bool) → Type 0
Tests post f = (x : ℕ) (b : Bool) → post x b → b ≡ f x

-- an end is where the bytes of any class that the closure tests end, from an index on
abbrev pub EndsRun : (ℕ → Bool → Type 0) → List ℕ → ℕ → ℕ → Type 0
EndsRun post s index end = (f : ℕ → Bool) → Tests post f → end ≡ index + run f (drop index s)
