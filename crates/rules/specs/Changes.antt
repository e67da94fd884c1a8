-- What the eight changes do (SCOPE, Reading rules), and the statement on them.
use Rattle.std.specs.Prelude.{ℕ, ◌≡◌, List}
use Rattle.rules.specs.Reading.{Change, crate, standard, without}
use Rattle.rules.specs.Scan.{inlineScan, blockScan}
use Rattle.rules.specs.declared.Rules.{Rules}

-- SCOPE: a change applies to a scan whose answer would be another if this change alone were undone; here it does not
abbrev pub Spares : {A : Type 0} → (Rules → A) → Change → Type 0
Spares scan c = scan crate ≡ scan (without c)

-- wherever none of the eight applies, the answer equals that of the unchanged rules
abbrev pub Unchanged : {A : Type 0} → (Rules → A) → Type 0
Unchanged scan = ((c : Change) → Spares scan c) → scan crate ≡ scan standard

-- the statement, of both scans on every input
pub record NoneApplies : Type 0 where
  pub inline : (text : List ℕ) (index carry : ℕ) → Unchanged (λ ρ. inlineScan ρ text index carry)
  pub block : (text flags : List ℕ) (index : ℕ) → Unchanged (λ ρ. blockScan ρ text flags index)
