-- What the answers of withholding say, by the numbers and values of each case.
use Rattle.std.specs.Prelude.{Result, Ok, Err}
use Rattle.rules.specs.Refusal.{refusalNumber}
use Rattle.rules.specs.Withhold.{Shown, shows, refusedShown}
use Rattle.rules.specs.declared.refusal.Refusal.{Refusal}
use Rattle.screen.specs.declared.withhold.Withheld.{Withheld}

-- the shown length and the number of pieces; or a refusal with its number
abbrev pub shownOf : Result Withheld Refusal → Shown
shownOf (Ok w) = shows w.length w.pieces
shownOf (Err r) = refusedShown (refusalNumber r)
