-- The answer of an entry that gives how much it writes, or a refusal: both traces, the tag filter, finding, and showing beside spans.
use Rattle.std.specs.Prelude.{◌≡◌, ℕ, List, Result, Ok, Err, eqb, length}
use Rattle.rules.specs.Search.{choose}
use Rattle.rules.specs.Refusal.{refusalNumber}
use Rattle.rules.specs.Withhold.{written}
use Rattle.rules.specs.declared.refusal.Refusal.{Refusal}

-- how much was written, in bytes or in spans, or the number of a refusal
pub data Wrote : Type 0 where
  wrote : ℕ → Wrote
  refusedWrite : ℕ → Wrote

abbrev pub outputOf : Result ℕ Refusal → Wrote
outputOf (Ok n) = wrote n
outputOf (Err r) = refusedWrite (refusalNumber r)

-- so much is written, where the refusal is 0
unfoldable pub answering : ℕ → ℕ → Wrote
answering refusal n = choose (eqb refusal 0) (λ _. wrote n) (λ _. refusedWrite refusal)

-- of an output of bytes that is its length
abbrev pub writing : ℕ → List ℕ → Wrote
writing refusal output = answering refusal (length output)

-- what such an entry answers, where it writes so much, and leaves in the buffer
pub record Gives (refusal n : ℕ) (output old : List ℕ) (r : Result ℕ Refusal) (new : List ℕ) : Type 0 where
  pub answer : outputOf r ≡ answering refusal n
  pub buffer : new ≡ written refusal output old

abbrev pub Writes : ℕ → List ℕ → List ℕ → Result ℕ Refusal → List ℕ → Type 0
Writes refusal output = Gives refusal (length output) output
