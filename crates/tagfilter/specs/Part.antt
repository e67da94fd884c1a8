-- What is made of a part of a bulletin, and of a piece. It need not be believed: no public contract cites it, and proofs/Replaced.antt shows that the pieces give
-- what the definition of the filter says.
use Rattle.std.specs.Prelude.{◌≡◌, Bool, true, false, List, [], ◌∷◌, ◌++◌, ℕ, zero, suc, ◌+◌, ◌-◌, ◌<◌, ◌≤◌, length, take, drop, Option, Some, None}
use Rattle.lexical.specs.Text.{bytes}
use Rattle.lexical.specs.Buffer.{Written}
use Rattle.rules.specs.Search.{choose}
use Rattle.rules.specs.Filter.{isDisallowed, filtered}
use Rattle.walk.specs.declared.bulletin.Bulletin.{Bulletin}
use Rattle.walk.specs.declared.pieces.Piece.{Piece}

-- the first n bytes of s, with `&lt;` for the `<` of each tag
unfoldable pub replacedPart : ℕ → List ℕ → List ℕ
replacedPart zero s = []
replacedPart (suc n) [] = []
replacedPart (suc n) (x ∷ xs) = choose (isDisallowed (x ∷ xs)) (λ _. bytes "&lt;" ++ replacedPart n xs) (λ _. x ∷ replacedPart n xs)

-- the bytes between two indices so
abbrev pub replacedBetween : List ℕ → ℕ → ℕ → List ℕ
replacedBetween text i j = replacedPart (j - i) (drop i text)

-- what stands between two indices stays as it is, where the part ends at the stop
pub record Passed (text : List ℕ) (stop i j : ℕ) : Type 0 where
  pub from : i ≤ j
  pub to : j ≤ stop
  pub same : replacedBetween text i stop ≡ take (j - i) (drop i text) ++ replacedBetween text j stop

-- a tag, and nothing is replaced before it
pub record TagAt (text : List ℕ) (i stop j : ℕ) : Type 0 where
  pub passed : Passed text stop i j
  pub within : j < stop
  pub tag : isDisallowed (drop j text) ≡ true

-- the first tag from an index on, or none
abbrev pub NextTag : List ℕ → ℕ → ℕ → Option ℕ → Type 0
NextTag text i stop (Some j) = TagAt text i stop j
NextTag text i stop None = replacedBetween text i stop ≡ take (stop - i) (drop i text)

-- bytes are written to a place, and the place behind them is given
pub record WritesPart (old : List ℕ) (at : ℕ) (bs new : List ℕ) (r : ℕ) : Type 0 where
  pub bytes-are : Written old at bs new
  pub behind : r ≡ at + length bs

-- ---- pieces
-- where the places of a piece that can count end: at the stop of a block, behind the first byte of an inline piece
abbrev pub countedEnd : Bool → ℕ → ℕ → ℕ
countedEnd true start stop = stop
countedEnd false start stop = start + 1

abbrev pub countedStop : Piece → ℕ
countedStop p = countedEnd p.block p.start p.stop

-- what comes in place of a piece
abbrev pub pieceBytes : List ℕ → Piece → List ℕ
pieceBytes text p = replacedBetween text p.start (countedStop p) ++ take (p.stop - countedStop p) (drop (countedStop p) text)

-- what a bulletin is shown as
abbrev pub filteredBy : Bulletin → List ℕ
filteredBy b = filtered b.rules b.text.now b.flags.now
