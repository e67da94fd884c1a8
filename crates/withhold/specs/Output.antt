-- What one call of `write` does with the bytes that are left.
use Rattle.std.specs.Prelude.{List, ℕ, ◌+◌, ◌≤◌, ◌<◌, Option, Some, None, Result, Ok, Err, length, take, ⊤}
use Rattle.std.specs.Io.KnownBytes.{Appends}
use Rattle.std.specs.declared.io.Error.{Error}
use Rattle.withhold.specs.declared.call.Again.{Again}

-- it takes so many bytes at the front, and as much is added to what the writer holds; or it was interrupted and patience is less
abbrev pub Sent : ℕ → Result (Option Again) Error → List ℕ → Option (List ℕ) → Option (List ℕ) → Type 0
Sent patience (Ok (Some a)) rest old new = (a.count ≤ length rest) × ((a.patience < patience + a.count) × Appends old new (take a.count rest))
Sent patience (Ok None) rest old new = ⊤
Sent patience (Err e) rest old new = ⊤
