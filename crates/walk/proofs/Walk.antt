-- From piece to piece: the pieces passed are counted. From the first line on, the pieces that remain are all pieces; and they stand in order, each with a byte, so
-- there are no more of them than bytes.
use Rattle.std.proofs.Common.{◌≡◌, ap, List, [], ℕ, suc, ◌+◌, ◌≤◌, arith, length}
use Rattle.rules.specs.Withhold.{Piece, pieces}
use Rattle.runs.proofs.Ordered.{Ordered, fewer, pieces-ordered}
use Rattle.walk.specs.Remaining.{fromLine, atLine, fromPlace, Takes}
use Rattle.walk.specs.declared.bulletin.Bulletin.{Bulletin}
use Rattle.walk.specs.declared.pieces.Piece.{Piece as Taken}
use Rattle.walk.proofs.Places.{line-remaining}

abbrev pub allPieces : Bulletin → List Piece
allPieces b = pieces b.rules b.text.now b.flags.now

pub all-ordered : (b : Bulletin) → Ordered 0 (length b.text.now) (allPieces b)
all-ordered b = pieces-ordered b.rules b.text.now b.flags.now

module _ (b : Bulletin) where
  pub from-start : fromPlace b (atLine 0 0) ≡ allPieces b
  unfolding fromLine pieces
  from-start = line-remaining b.rules b.text.now b.flags.now 0 0

  pub record Counting (ps : List Piece) (number : ℕ) : Type 0 where
    pub counted : number + length ps ≡ length (allPieces b)

  pub counting-start : {ps : List Piece} → ps ≡ allPieces b → Counting ps 0
  counting-start e = let l = ap length e in record { counted = omega (arith, l) }

  module _ {ps : List Piece} {number : ℕ} (counting : Counting ps number) where
    module _ {p : Taken} {qs : List Piece} (takes : Takes ps p qs) where
      pub counting-on : Counting qs (number + 1)
      counting-on = record { counted = let e : length ps ≡ suc (length qs) = ap length takes.is in omega (arith, e, counting.counted) }

      pub number-bound : number + 1 ≤ length b.text.now
      number-bound = omega (arith, counting-on.counted, fewer (all-ordered b))

    pub number-is : ps ≡ [] → number ≡ length (allPieces b)
    number-is over = let e : length ps ≡ 0 = ap length over in omega (arith, e, counting.counted)
