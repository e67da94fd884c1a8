-- Two runs of the code where private pieces differ: SCOPE, Several remarks swapped together.
use Rattle.std.specs.Prelude.{◌≡◌, List, ℕ, take}
use Rattle.rules.specs.Withhold.{Shown, shows, refusedShown}
use Rattle.rules.specs.Edition.{Edition}
use Rattle.rules.specs.declared.Rules.{Rules}

-- the same bytes, the same length and the same count are shown, in the fronts of two buffers
pub record SameShown (length₁ count₁ length₂ count₂ : ℕ) (buffer₁ buffer₂ : List ℕ) : Type 0 where
  pub same-bytes : take length₁ buffer₁ ≡ take length₂ buffer₂
  pub same-length : length₁ ≡ length₂
  pub same-count : count₁ ≡ count₂

-- where neither run is refused
abbrev pub SameAnswers : Shown → Shown → List ℕ → List ℕ → Type 0
SameAnswers (shows n₁ c₁) (shows n₂ c₂) buffer₁ buffer₂ = SameShown n₁ c₁ n₂ c₂ buffer₁ buffer₂
SameAnswers (shows n₁ c₁) (refusedShown r) buffer₁ buffer₂ = Unit {0}
SameAnswers (refusedShown r) b buffer₁ buffer₂ = Unit {0}

-- two bulletins that differ in any number of private pieces, which run one withholds, with the answers of both runs and the buffers after them
pub record Alike (ρ : Rules) (flags one two : List ℕ) (a b : Shown) (buffer₁ buffer₂ : List ℕ) : Type 0 where
  pub alike : Edition ρ flags one two → SameAnswers a b buffer₁ buffer₂
