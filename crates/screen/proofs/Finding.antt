-- Finding from piece to piece: the numbers of those passed are stored, and behind them stand those of the pieces that remain. Three for a piece are no more than three
-- for a byte, and no more bytes are shown than there are.
use Rattle.std.proofs.Common.{◌≡◌, refl, sym, ◌∙◌, ap, subst, Bool, true, false, ◌&&◌, List, [], ◌∷◌, ◌++◌, ℕ, ◌+◌, ◌*◌, ◌≤◌, arith, leb, length, le-leb}
use mir.Val.{bool_byte}
use Rattle.lexical.specs.Text.{pick, limit}
use Rattle.lexical.specs.Buffer.{stored, Written}
use Rattle.lexical.proofs.Stores.{stores, from-front, same}
use Rattle.rules.specs.Withhold.{Which, inline, block, Piece, piece, count, written}
use Rattle.rules.specs.Spans.{sortOf, spansOf, foundSpans}
use Rattle.runs.proofs.Ordered.{Ordered, first-some, first-to, others}
use Rattle.runs.proofs.Spans.{found-length, found-most, shown-most}
use Rattle.walk.specs.Remaining.{isBlock, Takes}
use Rattle.walk.specs.declared.bulletin.Bulletin.{Bulletin}
use Rattle.walk.specs.declared.pieces.Piece.{Piece as Taken}
use Rattle.walk.proofs.Walk.{allPieces, all-ordered, Counting, counting-start, counting-on, number-is}
use Rattle.screen.specs.Found.{shownBy, spansBy, Measures, spanNumbers, Fills}
use Rattle.screen.specs.declared.withhold.Withheld.{Withheld}

-- the number of a piece's sort
pub byte-is : (t : Bool) → bool_byte t ≡ pick t 1 0
byte-is true = refl
byte-is false = refl

sort-is : (w : Which) → sortOf w ≡ pick (isBlock w) 1 0
sort-is inline = refl
sort-is (block k c) = refl

module _ (b : Bulletin) (old : List ℕ) where
  pub record Filling (list : List ℕ) (ps : List Piece) (number : ℕ) : Type 0 where
    pub counting : Counting b ps number
    pub from : ℕ
    pub ordered : Ordered from (length b.text.now) ps
    pub same-length : length list ≡ length old
    pub filled : stored list (3 * number) (spansOf ps) ≡ stored old 0 (spansBy b)

  pub filling-start : {ps : List Piece} → ps ≡ allPieces b → Filling old ps 0
  unfolding foundSpans
  filling-start e =
      record { counting = counting-start b e; from = 0; ordered = subst (Ordered 0 (length b.text.now)) (sym e) (all-ordered b); same-length = refl; filled = ap (λ qs. stored old 0 (spansOf qs)) e }

  module _ (room : length (spansBy b) ≤ length old) {list : List ℕ} {ps : List Piece} {number : ℕ} (filling : Filling list ps number) where
    module _ {p : Taken} {qs : List Piece} (takes : Takes ps p qs) where
      first-is : Ordered filling.from (length b.text.now) (piece p.start p.stop takes.which ∷ qs)
      first-is = subst (Ordered filling.from (length b.text.now)) takes.is filling.ordered

      numbers-are : spansOf ps ≡ spanNumbers p ++ spansOf qs
      unfolding spansOf
      numbers-are = ap spansOf takes.is ∙ ap (λ k. p.start ∷ (p.stop ∷ (k ∷ spansOf qs))) (sort-is takes.which ∙ ap (λ t. pick t 1 0) takes.is-block)

      pub span-fits : 3 * number + 3 ≤ length list
      unfolding count
      span-fits = omega (arith, room, filling.same-length, found-length b.rules b.text.now b.flags.now, (counting-on b filling.counting takes).counted)

      -- each number of the piece is within the bulletin
      pub piece-short : length b.text.now ≤ limit → (p.start ≤ limit) × (p.stop ≤ limit)
      piece-short h = let some = first-some first-is in let to = first-to first-is in (omega (arith, some, to, h), omega (arith, to, h))

      pub filling-on : {new : List ℕ} → Written list (3 * number) (spanNumbers p) new → Filling new qs (number + 1)
      filling-on w =
          record {
            counting = counting-on b filling.counting takes;
            from = p.stop;
            ordered = others first-is;
            same-length = same w ∙ filling.same-length;
            filled =
                ap (λ t. stored t (3 * (number + 1)) (spansOf qs)) w.is
                ∙ stores list (3 * number) (3 * (number + 1)) (spanNumbers p) (spansOf qs) (omega arith)
                ∙ ap (stored list (3 * number)) (sym numbers-are)
                ∙ filling.filled;
          }

    pub filled-all : ps ≡ [] → Fills b old number list
    unfolding count written spansOf stored
    filled-all over =
        record {
          pieces-are = number-is b filling.counting over;
          list = ap (λ qs. stored list (3 * number) (spansOf qs)) (sym over) ∙ filling.filled ∙ from-front (spansBy b) old room;
        }

-- ---- room
module _ (b : Bulletin) where
  pub room-for-all : (list room : ℕ) → 3 * length b.text.now ≤ list → length b.text.now ≤ room → true ≡ (leb (length (spansBy b)) list && leb (length (shownBy b)) room)
  room-for-all list room l r =
      rw (le-leb (length (spansBy b)) list (omega (arith, found-most b.rules b.text.now b.flags.now, l)), le-leb (length (shownBy b)) room (omega (arith, shown-most b.rules b.text.now b.flags.now, r))) refl

  module _ {w : Withheld} (m : Measures b w) where
    three-for-each : 3 * w.pieces ≡ length (spansBy b)
    three-for-each = ap (λ n. 3 * n) m.pieces-are ∙ sym (found-length b.rules b.text.now b.flags.now)

    pub room-for : (list room : ℕ) → (leb (3 * w.pieces) list && leb w.length room) ≡ (leb (length (spansBy b)) list && leb (length (shownBy b)) room)
    room-for list room = ap (λ n. leb n list && leb w.length room) three-for-each ∙ ap (λ n. leb (length (spansBy b)) list && leb n room) m.length-is

    pub pieces-most : 3 * w.pieces ≤ 3 * length b.text.now
    pieces-most = omega (arith, three-for-each, found-most b.rules b.text.now b.flags.now)
