-- Outputs that leave the bytes outside pieces as they are and have something in place of each piece: between two pieces the bytes are copied, and behind the last
-- piece the rest is. The pieces that remain stand in order, so such an output has what was made up to a place in front, and behind it what the pieces that remain
-- make. Whatever the pieces are and whatever comes in place of one, this is the same argument: it is given once, over any output and any pieces in order.
use Rattle.std.proofs.Common.{◌≡◌, refl, sym, ◌∙◌, ap, subst, List, [], ◌∷◌, ◌++◌, append_assoc, ℕ, ◌+◌, ◌-◌, ◌<◌, ◌≤◌, arith, length, take, drop, length-append, length-drop, length-take-le, take_all}
use Rattle.lexical.specs.Buffer.{stored, Written}
use Rattle.lexical.proofs.Stores.{stores, from-front, same, written-as, written-whole, then}
use Rattle.rules.specs.Withhold.{Piece, piece, outside, written}
use Rattle.runs.proofs.Ordered.{Ordered, bounds, first-from, first-some, first-to, others, outside-none, outside-next}
use Rattle.walk.specs.Remaining.{isBlock, Takes}
use Rattle.walk.specs.declared.pieces.Piece.{Piece as Taken}

-- the bytes between two indices
abbrev pub between : List ℕ → ℕ → ℕ → List ℕ
between text i j = take (j - i) (drop i text)

pub between-length : (text : List ℕ) (i j : ℕ) → i ≤ j → j ≤ length text → length (between text i j) ≡ j - i
between-length text i j a b = length-take-le (j - i) (drop i text) (omega (arith, length-drop i text))

-- a piece as the code tells it
abbrev pub told : Piece → Taken
told p = record { start = p.start; stop = p.stop; block = isBlock p.which }

-- what is made of a bulletin: `ahead i ps` from the index i on, where the pieces ps remain, and `in-place p` in place of the piece p
pub record Replacing (text : List ℕ) : Type 0 where
  pub ahead : ℕ → List Piece → List ℕ
  pub in-place : Taken → List ℕ
  pub by-piece : (i : ℕ) (p : Piece) (ps : List Piece) → Ordered i (length text) (p ∷ ps) → ahead i (p ∷ ps) ≡ between text i p.start ++ (in-place (told p) ++ ahead p.stop ps)
  pub by-none : (i : ℕ) → ahead i [] ≡ drop i text

-- withholding has nothing in place of a piece
abbrev pub withholding : (text : List ℕ) → Replacing text
withholding text =
    record {
      ahead = λ i ps. outside i ps (drop i text);
      in-place = λ p. [];
      by-piece = λ i p ps o. outside-next text i (length text) p ps o (omega arith);
      by-none = λ i. outside-none i (drop i text);
    }

module _ {text : List ℕ} (all : List Piece) (r : Replacing text) where
  abbrev whole : List ℕ
  whole = r.ahead 0 all

  -- ---- the length: what is made up to an index is size bytes long
  pub record Walking (ps : List Piece) (from size : ℕ) : Type 0 where
    pub ordered : Ordered from (length text) ps
    pub sum : size + length (r.ahead from ps) ≡ length whole

  pub walking-start : Ordered 0 (length text) all → {ps : List Piece} → ps ≡ all → Walking ps 0 0
  walking-start o e =
      record { ordered = subst (Ordered 0 (length text)) (sym e) o; sum = let l = ap (λ qs. length (r.ahead 0 qs)) e in omega (arith, l) }

  module _ {ps : List Piece} {from size : ℕ} (walking : Walking ps from size) where
    pub within : from ≤ length text
    within = bounds walking.ordered

    -- a piece
    module _ {p : Taken} {qs : List Piece} (takes : Takes ps p qs) where
      first-is : Ordered from (length text) (piece p.start p.stop takes.which ∷ qs)
      first-is = subst (Ordered from (length text)) takes.is walking.ordered

      pub from-to : (from ≤ p.start) × (p.start < p.stop) × (p.stop ≤ length text)
      from-to = (first-from first-is, first-some first-is, first-to first-is)

      pub parted : r.ahead from ps ≡ between text from p.start ++ (r.in-place p ++ r.ahead p.stop qs)
      parted =
          ap (r.ahead from) takes.is
          ∙ r.by-piece from (piece p.start p.stop takes.which) qs first-is
          ∙ ap (λ t. between text from p.start ++ (r.in-place (record { start = p.start; stop = p.stop; block = t }) ++ r.ahead p.stop qs)) takes.is-block

      before-length : length (between text from p.start) ≡ p.start - from
      before-length = between-length text from p.start from-to.0 (omega (arith, from-to.1, from-to.2))

      sizes : length (r.ahead from ps) ≡ (p.start - from) + length (r.in-place p) + length (r.ahead p.stop qs)
      sizes =
          omega (arith, ap length parted, before-length, length-append (between text from p.start) (r.in-place p ++ r.ahead p.stop qs), length-append (r.in-place p) (r.ahead p.stop qs))

      pub walking-on : (n : ℕ) → n ≡ size + (p.start - from) + length (r.in-place p) → Walking qs p.stop n
      walking-on n h = record { ordered = others first-is; sum = omega (arith, h, sizes, walking.sum) }

      pub size-bound : size + (p.start - from) + length (r.in-place p) ≤ length whole
      size-bound = omega (arith, sizes, walking.sum)

    -- behind the last piece
    module _ (over : ps ≡ []) where
      rest-is : r.ahead from ps ≡ drop from text
      rest-is = ap (r.ahead from) over ∙ r.by-none from

      pub size-is : size + (length text - from) ≡ length whole
      size-is = omega (arith, ap length rest-is, length-drop from text, walking.sum)

  -- ---- the bytes: they are written to the front of a buffer that has room for all
  module _ (old : List ℕ) where
    pub record Showing (out : List ℕ) (ps : List Piece) (from size : ℕ) : Type 0 where
      pub walking : Walking ps from size
      pub same-length : length out ≡ length old
      pub bytes : stored out size (r.ahead from ps) ≡ stored old 0 whole

    pub showing-start : Ordered 0 (length text) all → {ps : List Piece} → ps ≡ all → Showing old ps 0 0
    showing-start o e = record { walking = walking-start o e; same-length = refl; bytes = ap (λ qs. stored old 0 (r.ahead 0 qs)) e }

    module _ (room : length whole ≤ length old) {out : List ℕ} {ps : List Piece} {from size : ℕ} (showing : Showing out ps from size) where
      -- what fits is written whole
      fits : (bs new : List ℕ) → size + length bs ≤ length whole → Written out size (take (length out - size) bs) new → Written out size bs new
      fits bs new l w = written-whole bs (omega (arith, showing.same-length)) w

      -- what stands in front of the piece is copied as far as there is room, and then what comes in its place is written
      pub showing-on : {p : Taken} {qs : List Piece} → Takes ps p qs → {mid new : List ℕ} → Written out size (take (length out - size) (between text from p.start)) mid
          → Written mid (size + (p.start - from)) (r.in-place p) new → (n : ℕ) → n ≡ size + (p.start - from) + length (r.in-place p) → Showing new qs p.stop n
      showing-on {p} {qs} takes {mid} {new} v w n h =
          let front = between text from p.start in
          let c = r.in-place p in
          let l = before-length showing.walking takes in
          let copied = fits front mid (omega (arith, l, size-bound showing.walking takes)) v in
          let both = then (ap (λ k. size + k) (sym l)) copied w in
          record {
            walking = walking-on showing.walking takes n h;
            same-length = same both ∙ showing.same-length;
            bytes =
                ap (λ t. stored t n (r.ahead p.stop qs)) both.is
                ∙ stores out size n (front ++ c) (r.ahead p.stop qs) (omega (arith, h, l, length-append front c))
                ∙ ap (stored out size) (append_assoc front c (r.ahead p.stop qs) ∙ sym (parted showing.walking takes))
                ∙ showing.bytes;
          }

      -- at the end all of it is there
      pub shows-all : ps ≡ [] → {new : List ℕ} → Written out size (take (length out - size) (between text from (length text))) new → new ≡ written 0 whole old
      unfolding written
      shows-all over {new} w =
          let e : drop from text ≡ between text from (length text) = sym (take_all (length text - from) (drop from text) (omega (arith, length-drop from text))) in
          let l = size-is showing.walking over in
          let rest = written-as (drop from text) e (fits (between text from (length text)) new (omega (arith, l, ap length e, length-drop from text)) w) in
          rest.is ∙ ap (stored out size) (sym (rest-is showing.walking over)) ∙ showing.bytes ∙ from-front whole old room
