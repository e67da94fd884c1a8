-- SCOPE, Which name it was. A line that opens kind 1 or 6 carries the place at which the list of that kind has its tag's name.
use Rattle.std.specs.Prelude.{◌≡◌}
use Rattle.lexical.specs.Name.{blockNames, rawNames, StandsAt}
use Rattle.rules.specs.Lines.{Line}
use Rattle.rules.specs.Block.{kindOf, lineName, placeOf}
use Rattle.rules.specs.declared.Rules.{Rules}

pub record CarriesName : Type 0 where
  pub raw : (ρ : Rules) (l : Line) → kindOf ρ l ≡ 1 → StandsAt rawNames (lineName l) (placeOf 1 l)
  pub basic : (ρ : Rules) (l : Line) → kindOf ρ l ≡ 6 → StandsAt blockNames (lineName l) (placeOf 6 l)
