-- A buffer before and after bytes are written into it. It need not be believed: of public contracts only that of `copy_part` cites it.
use Rattle.std.specs.Prelude.{◌≡◌, ℕ, suc, List, [], ◌∷◌, slice_set}

-- with bytes stored one behind the other, from an index on
unfoldable pub stored : List ℕ → ℕ → List ℕ → List ℕ
stored old at [] = old
stored old at (x ∷ bs) = stored (slice_set old at x) (suc at) bs

-- the buffer old becomes new where the bytes are written from the index on
pub record Written (old : List ℕ) (at : ℕ) (bs : List ℕ) (new : List ℕ) : Type 0 where
  pub is : new ≡ stored old at bs
