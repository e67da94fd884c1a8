-- Showing beside spans is an output that goes by pieces, with nothing in place of a piece: so what the law of the walk says of any such output holds of its length
-- and its bytes.
use Rattle.std.proofs.Common.{◌≡◌, refl, ap, true, false, List, [], ◌∷◌, ℕ, ◌<◌, arith, length}
use Rattle.rules.specs.Withhold.{inline}
use Rattle.rules.specs.Spans.{areSpans, asPieces}
use Rattle.runs.proofs.Spans.{Spans, are-spans, as-ordered}
use Rattle.walk.specs.Remaining.{Takes}
use Rattle.walk.specs.declared.pieces.Piece.{Piece as Taken}
use Rattle.walk.proofs.Replacing.{withholding, Walking, walking-start, Showing, showing-start}
use Rattle.spans.proofs.Lists.{no-span}

-- the first span is the first piece
abbrev pub taken : ℕ → ℕ → Taken
taken a b = record { start = a; stop = b; block = false }

pub takes : (a b k : ℕ) {list rest : List ℕ} → list ≡ a ∷ (b ∷ (k ∷ rest)) → Takes (asPieces list) (taken a b) (asPieces rest)
takes a b k first = record { which = inline; is-block = refl; is = ap asPieces first }

pub no-piece : {from end : ℕ} {list : List ℕ} → length list < 3 → Spans from end list → asPieces list ≡ []
no-piece l w = ap asPieces (no-span l w)

module _ (text spans : List ℕ) (h : areSpans 0 (length text) spans ≡ true) where
  pub all-valid : Spans 0 (length text) spans
  all-valid = are-spans 0 (length text) spans (omega arith) h

  pub going-start : Walking (asPieces spans) (withholding text) (asPieces spans) 0 0
  going-start = walking-start (asPieces spans) (withholding text) (as-ordered all-valid) refl

  pub writing-start : (old : List ℕ) → Showing (asPieces spans) (withholding text) old old (asPieces spans) 0 0
  writing-start old = showing-start (asPieces spans) (withholding text) old (as-ordered all-valid) refl
