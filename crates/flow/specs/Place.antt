-- The place of a name, where there is one.
use Rattle.std.specs.Prelude.{ℕ, Bool, true, not, Option, Some, None, eqb}
use Rattle.lexical.specs.Name.{unnamed}

-- it is not the number of none
abbrev pub isPlace : Option ℕ → Bool
isPlace None = true
isPlace (Some p) = not (eqb p unnamed)
