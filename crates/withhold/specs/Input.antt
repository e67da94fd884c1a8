-- A buffer before and after reading into it.
use Rattle.std.specs.Prelude.{◌≡◌, List, ℕ, ◌+◌, ◌≤◌, ◌<◌, Option, Some, None, Result, Ok, Err, length, drop}
use Rattle.std.specs.declared.io.Error.{Error}
use Rattle.withhold.specs.declared.call.Again.{Again}

-- only the first bytes change
pub record FrontOnly (count : ℕ) (old new : List ℕ) : Type 0 where
  pub room : count ≤ length old
  pub same : length new ≡ length old
  pub rest : drop count new ≡ drop count old

-- one call: it moves bytes to the front, or it was interrupted and patience is less
abbrev pub Front : ℕ → Result (Option Again) Error → List ℕ → List ℕ → Type 0
Front patience (Ok (Some a)) old new = FrontOnly a.count old new × (a.patience < patience + a.count)
Front patience (Ok None) old new = new ≡ old
Front patience (Err e) old new = new ≡ old

-- all calls: no more is read than there is room for, and behind it the buffer is as it was; or a call failed
abbrev pub Filled : Result ℕ Error → List ℕ → List ℕ → Type 0
Filled (Ok count) old new = FrontOnly count old new
Filled (Err e) old new = length new ≡ length old
