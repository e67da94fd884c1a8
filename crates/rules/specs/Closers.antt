-- SCOPE, Where the closer stands. Of every found block the closer tells whether one was met: it begins before the stop exactly where one was; elsewhere it is
-- the stop.
use Rattle.std.specs.Prelude.{ℕ, ◌≤◌, ◌≡◌, List, ltb}
use Rattle.rules.specs.Lines.{Line}
use Rattle.rules.specs.Scan.{Found, foundBlock, blockOf}
use Rattle.rules.specs.declared.Rules.{Rules}

pub record Tells (b : Found) : Type 0 where
  pub within : b.closer ≤ b.stop
  pub closed : b.closed ≡ ltb b.closer b.stop

abbrev pub CloserTells : Type 0
CloserTells = (ρ : Rules) (i : ℕ) (ls : List Line) (b : Found) → blockOf ρ i ls ≡ foundBlock b → Tells b
