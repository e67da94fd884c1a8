-- What the iterator over the pieces gives: of a call before, its answer, and after.
use Rattle.std.specs.Prelude.{◌≡◌, List, [], Option, Some, None}
use Rattle.rules.specs.Withhold.{Piece}
use Rattle.walk.specs.Remaining.{fromPlace, Takes}
use Rattle.walk.specs.declared.pieces.Piece.{Piece as Taken}
use Rattle.walk.specs.declared.iter.Pieces.{Pieces}

-- the pieces that are left
abbrev pub left : Pieces → List Piece
left s = fromPlace s.bulletin s.cursor

-- the first of the pieces ps, and the others are left; or there was none
abbrev pub Yields : List Piece → Option Taken → List Piece → Type 0
Yields ps (Some p) qs = Takes ps p qs
Yields ps None qs = (ps ≡ []) × (qs ≡ [])
