-- What is measured and what is filled, before and after. It need not be believed: no public contract cites it.
use Rattle.std.specs.Prelude.{◌≡◌, List, [], ◌∷◌, ℕ, length}
use Rattle.lexical.specs.Text.{pick}
use Rattle.rules.specs.Withhold.{shown, count, written}
use Rattle.rules.specs.Spans.{foundSpans}
use Rattle.walk.specs.declared.bulletin.Bulletin.{Bulletin}
use Rattle.walk.specs.declared.pieces.Piece.{Piece}
use Rattle.screen.specs.declared.withhold.Withheld.{Withheld}

abbrev pub shownBy : Bulletin → List ℕ
shownBy b = shown b.rules b.text.now b.flags.now

abbrev pub spansBy : Bulletin → List ℕ
spansBy b = foundSpans b.rules b.text.now b.flags.now

abbrev pub countBy : Bulletin → ℕ
countBy b = count b.rules b.text.now b.flags.now

pub record Measures (b : Bulletin) (w : Withheld) : Type 0 where
  pub length-is : w.length ≡ length (shownBy b)
  pub pieces-are : w.pieces ≡ countBy b

-- the numbers of a piece's span
abbrev pub spanNumbers : Piece → List ℕ
spanNumbers p = p.start ∷ (p.stop ∷ (pick p.block 1 0 ∷ []))

pub record Fills (b : Bulletin) (old : List ℕ) (pieces : ℕ) (new : List ℕ) : Type 0 where
  pub pieces-are : pieces ≡ countBy b
  pub list : new ≡ written 0 (spansBy b) old
