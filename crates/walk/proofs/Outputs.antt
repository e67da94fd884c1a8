-- Any output that is made of a bulletin piece by piece: what comes up to the stop of the next piece may be anything that depends on the piece, its kind and whether
-- its closer was met too, and on where the bytes before it began. Of any it is said what holds from place to place of its length (`Walking`) and of its bytes in a
-- buffer (`Showing`). Today's outputs keep the bytes outside pieces, and what they have in place of one depends on where it stands and on whether it is a block:
-- their laws are those of Replacing.antt, over any pieces in order. These are for an output that asks more of a piece, or that does not keep those bytes; each of
-- today's is one of them (`replaced`, `output`).
use Rattle.std.proofs.Common.{◌≡◌, refl, sym, ◌∙◌, ap, subst, List, [], ◌∷◌, ◌++◌, append_assoc, ℕ, ◌+◌, ◌-◌, ◌<◌, ◌≤◌, arith, length, take, drop, length-append, length-drop, take_all}
use Rattle.std.proofs.lemmas.List.{drop_all}
use Rattle.lexical.specs.Buffer.{stored, Written}
use Rattle.lexical.proofs.Stores.{stores, from-front, same, written-as, written-whole, then}
use Rattle.rules.specs.Withhold.{Piece, piece, pieces, written}
use Rattle.rules.specs.declared.Rules.{Rules}
use Rattle.runs.proofs.Ordered.{Ordered, none, fewer, bounds, first-from, first-some, others, first-to, pieces-ordered}
use Rattle.walk.specs.Remaining.{fromLine, atLine, remaining, Valid, Leads}
use Rattle.walk.specs.declared.pieces.Cursor.{Cursor}
use Rattle.walk.specs.declared.pieces.Next.{Next}
use Rattle.walk.proofs.Places.{line-valid, line-remaining}
use Rattle.walk.proofs.Replacing.{Replacing, between, between-length, told}

-- `ahead i ps` is made from the index i on, where the pieces ps remain; `part i p` from i to the stop of the next piece p; `rest i` from i on where none remains
pub record Output (text : List ℕ) : Type 0 where
  pub ahead : ℕ → List Piece → List ℕ
  pub part : ℕ → Piece → List ℕ
  pub rest : ℕ → List ℕ
  pub by-piece : (i : ℕ) (p : Piece) (ps : List Piece) → Ordered i (length text) (p ∷ ps) → ahead i (p ∷ ps) ≡ part i p ++ ahead p.stop ps
  pub by-none : (i : ℕ) → ahead i [] ≡ rest i
  pub at-end : rest (length text) ≡ []

-- Where the bytes outside pieces stay as they are, only what comes in place of a piece is to be given: `in-place p`, which may depend on all that the piece is.
pub record Replaced (text : List ℕ) : Type 0 where
  pub ahead : ℕ → List Piece → List ℕ
  pub in-place : Piece → List ℕ
  pub by-piece : (i : ℕ) (p : Piece) (ps : List Piece) → Ordered i (length text) (p ∷ ps) → ahead i (p ∷ ps) ≡ between text i p.start ++ (in-place p ++ ahead p.stop ps)
  pub by-none : (i : ℕ) → ahead i [] ≡ drop i text

abbrev pub replaced : {text : List ℕ} → Replacing text → Replaced text
replaced r = record { ahead = r.ahead; in-place = λ p. r.in-place (told p); by-piece = r.by-piece; by-none = r.by-none }

abbrev pub output : {text : List ℕ} → Replaced text → Output text
output {text} r =
    record {
      ahead = r.ahead;
      part = λ i p. between text i p.start ++ r.in-place p;
      rest = λ i. drop i text;
      by-piece = λ i p ps o. r.by-piece i p ps o ∙ sym (append_assoc (between text i p.start) (r.in-place p) (r.ahead p.stop ps));
      by-none = r.by-none;
      at-end = drop_all (length text) text (let l : length text ≤ length text = omega arith in l);
    }

module _ (ρ : Rules) (text flags : List ℕ) (o : Output text) where
  from-start : remaining ρ text flags (atLine 0 0) ≡ pieces ρ text flags
  unfolding fromLine pieces
  from-start = line-remaining ρ text flags 0 0

  abbrev whole : List ℕ
  whole = o.ahead 0 (pieces ρ text flags)

  abbrev to-come : Cursor → ℕ → List ℕ
  to-come c from = o.ahead from (remaining ρ text flags c)

  -- ---- the length: what is made so far is size bytes long
  pub record Walking (c : Cursor) (from size : ℕ) : Type 0 where
    pub valid : Valid text c
    pub ordered : Ordered from (length text) (remaining ρ text flags c)
    pub sum : size + length (to-come c from) ≡ length whole

  pub walking-start : Walking (atLine 0 0) 0 0
  walking-start =
      record {
        valid = line-valid ρ text flags 0 0;
        ordered = subst (Ordered 0 (length text)) (sym from-start) (pieces-ordered ρ text flags);
        sum = let e : length (to-come (atLine 0 0) 0) ≡ length whole = ap (λ ps. length (o.ahead 0 ps)) from-start in omega (arith, e);
      }

  module _ (c : Cursor) (from size : ℕ) (walking : Walking c from size) where
    pub within : from ≤ length text
    within = bounds walking.ordered

    -- a piece, and the place behind it
    module _ (next : Next) (leads : Leads ρ text flags (remaining ρ text flags c) next) where
      abbrev start : ℕ
      start = next.piece.start

      abbrev stop : ℕ
      stop = next.piece.stop

      abbrev p : Piece
      p = piece start stop leads.takes.which

      first-is : Ordered from (length text) (p ∷ remaining ρ text flags next.behind)
      first-is = subst (Ordered from (length text)) leads.takes.is walking.ordered

      pub from-to : (from ≤ start) × (start < stop) × (stop ≤ length text)
      from-to = (first-from first-is, first-some first-is, first-to first-is)

      pub parted : to-come c from ≡ o.part from p ++ to-come next.behind stop
      parted = ap (o.ahead from) leads.takes.is ∙ o.by-piece from p (remaining ρ text flags next.behind) first-is

      pub walking-on : (n : ℕ) → n ≡ size + length (o.part from p) → Walking next.behind stop n
      walking-on n h =
          record {
            valid = leads.valid;
            ordered = others first-is;
            sum = let e = ap length parted ∙ length-append (o.part from p) (to-come next.behind stop) in omega (arith, h, e, walking.sum);
          }

      pub part-bound : size + length (o.part from p) ≤ length whole
      part-bound = omega (arith, (walking-on (size + length (o.part from p)) refl).sum)

    -- no piece
    module _ (over : remaining ρ text flags c ≡ []) where
      pub rest-is : to-come c from ≡ o.rest from
      rest-is = ap (o.ahead from) over ∙ o.by-none from

      pub none-come : to-come c (length text) ≡ []
      none-come = ap (o.ahead (length text)) over ∙ o.by-none (length text) ∙ o.at-end

      pub walking-end : (n : ℕ) → n ≡ size + length (o.rest from) → Walking c (length text) n
      walking-end n h =
          record {
            valid = walking.valid;
            ordered = subst (Ordered (length text) (length text)) (sym over) (let l : length text ≤ length text = omega arith in none l);
            sum = let a = ap length none-come in let b = ap length rest-is in omega (arith, h, a, b, walking.sum);
          }

      pub rest-bound : size + length (o.rest from) ≤ length whole
      rest-bound = let b = ap length rest-is in omega (arith, b, walking.sum)

    -- at the end
    module _ (l : length text ≤ from) where
      pub none-remain : remaining ρ text flags c ≡ []
      none-remain = drop_all 0 (remaining ρ text flags c) (omega (arith, fewer walking.ordered))

      pub none-ahead : to-come c from ≡ []
      none-ahead = let e : from ≡ length text = omega (arith, within) in ap (to-come c) e ∙ none-come none-remain

      pub size-is : size ≡ length whole
      size-is = let e = ap length none-ahead in omega (arith, e, walking.sum)

  -- ---- the bytes: they are written to the front of a buffer
  module _ (old : List ℕ) where
    pub record Showing (out : List ℕ) (c : Cursor) (from size : ℕ) : Type 0 where
      pub walking : Walking c from size
      pub same-length : length out ≡ length old
      pub bytes : stored out size (to-come c from) ≡ stored old 0 whole

    pub showing-start : Showing old (atLine 0 0) 0 0
    showing-start = record { walking = walking-start; same-length = refl; bytes = ap (λ ps. stored old 0 (o.ahead 0 ps)) from-start }

    module _ (out : List ℕ) (c : Cursor) (from size : ℕ) (showing : Showing out c from size) where
      -- what fits is written whole
      pub fits : length whole ≤ length old → {bs new : List ℕ} → size + length bs ≤ length whole → Written out size (take (length out - size) bs) new → Written out size bs new
      fits room {bs} l w = written-whole bs (omega (arith, showing.same-length)) w

      module _ (new : List ℕ) where
        pub showing-on : (next : Next) (leads : Leads ρ text flags (remaining ρ text flags c) next) (n : ℕ)
            → n ≡ size + length (o.part from (piece next.piece.start next.piece.stop leads.takes.which))
            → Written out size (o.part from (piece next.piece.start next.piece.stop leads.takes.which)) new → Showing new next.behind next.piece.stop n
        showing-on next leads n h w =
            let p = piece next.piece.start next.piece.stop leads.takes.which in
            let walking = showing.walking in
            record {
              walking = walking-on c from size walking next leads n h;
              same-length = same w ∙ showing.same-length;
              bytes =
                  ap (λ t. stored t n (to-come next.behind next.piece.stop)) w.is
                  ∙ stores out size n (o.part from p) (to-come next.behind next.piece.stop) h
                  ∙ ap (stored out size) (sym (parted c from size walking next leads))
                  ∙ showing.bytes;
            }

        pub showing-end : remaining ρ text flags c ≡ [] → (n : ℕ) → n ≡ size + length (o.rest from) → Written out size (o.rest from) new → Showing new c (length text) n
        unfolding stored
        showing-end over n h w =
            let walking = showing.walking in
            record {
              walking = walking-end c from size walking over n h;
              same-length = same w ∙ showing.same-length;
              bytes = ap (stored new n) (none-come c from size walking over) ∙ w.is ∙ ap (stored out size) (sym (rest-is c from size walking over)) ∙ showing.bytes;
            }

      -- at the end all of it is there
      pub shows-all : length whole ≤ length old → length text ≤ from → (size ≡ length whole) × (out ≡ written 0 whole old)
      unfolding stored written
      shows-all room l =
          let walking = showing.walking in
          (size-is c from size walking l, ap (stored out size) (sym (none-ahead c from size walking l)) ∙ showing.bytes ∙ from-front whole old room)

-- ---- the same where the bytes outside pieces stay as they are
module _ (ρ : Rules) (text flags : List ℕ) (r : Replaced text) where
  abbrev kept : List ℕ
  kept = r.ahead 0 (pieces ρ text flags)

  -- the length
  module _ (c : Cursor) (from size : ℕ) (walking : Walking ρ text flags (output r) c from size) where
    module _ (next : Next) (leads : Leads ρ text flags (remaining ρ text flags c) next) where
      abbrev first : Piece
      first = piece next.piece.start next.piece.stop leads.takes.which

      before-length : length (between text from next.piece.start) ≡ next.piece.start - from
      before-length =
          let l = from-to ρ text flags (output r) c from size walking next leads in
          between-length text from next.piece.start l.0 (omega (arith, l.1, l.2))

      pub sizes : size + (next.piece.start - from) + length (r.in-place first) ≡ size + length ((output r).part from first)
      sizes = omega (arith, before-length, length-append (between text from next.piece.start) (r.in-place first))

      pub replaced-on : (n : ℕ) → n ≡ size + (next.piece.start - from) + length (r.in-place first) → Walking ρ text flags (output r) next.behind next.piece.stop n
      replaced-on n h = walking-on ρ text flags (output r) c from size walking next leads n (h ∙ sizes)

      pub replaced-bound : size + (next.piece.start - from) + length (r.in-place first) ≤ length kept
      replaced-bound = omega (arith, sizes, part-bound ρ text flags (output r) c from size walking next leads)

    end-size : size + (length text - from) ≡ size + length (drop from text)
    end-size = omega (arith, length-drop from text)

    module _ (over : remaining ρ text flags c ≡ []) where
      pub copied-end : Walking ρ text flags (output r) c (length text) (size + (length text - from))
      copied-end = walking-end ρ text flags (output r) c from size walking over (size + (length text - from)) end-size

      pub copied-bound : size + (length text - from) ≤ length kept
      copied-bound = omega (arith, end-size, rest-bound ρ text flags (output r) c from size walking over)

  -- the bytes
  module _ (old : List ℕ) (room : length kept ≤ length old) (out : List ℕ) (c : Cursor) (from size : ℕ) (showing : Showing ρ text flags (output r) old out c from size) where
    -- what stands in front of the piece is copied as far as there is room, and then what comes in its place is written
    pub replaced-shown : (next : Next) (leads : Leads ρ text flags (remaining ρ text flags c) next) (mid new : List ℕ) (n : ℕ)
        → n ≡ size + (next.piece.start - from) + length (r.in-place (piece next.piece.start next.piece.stop leads.takes.which))
        → Written out size (take (length out - size) (between text from next.piece.start)) mid
        → Written mid (size + (next.piece.start - from)) (r.in-place (piece next.piece.start next.piece.stop leads.takes.which)) new
        → Showing ρ text flags (output r) old new next.behind next.piece.stop n
    replaced-shown next leads mid new n h v w =
        let walking = showing.walking in
        let l = before-length c from size walking next leads in
        let m = replaced-bound c from size walking next leads in
        let copied = fits ρ text flags (output r) old out c from size showing room {bs = between text from next.piece.start} (omega (arith, l, m)) v in
        showing-on ρ text flags (output r) old out c from size showing new next leads n (h ∙ sizes c from size walking next leads) (then (ap (λ k. size + k) (sym l)) copied w)

    pub copied-shown : remaining ρ text flags c ≡ [] → (new : List ℕ) → Written out size (take (length out - size) (between text from (length text))) new
        → Showing ρ text flags (output r) old new c (length text) (size + (length text - from))
    copied-shown over new w =
        let h = end-size c from size showing.walking in
        let e : drop from text ≡ between text from (length text) = sym (take_all (length text - from) (drop from text) (omega (arith, length-drop from text))) in
        let l = copied-bound c from size showing.walking over in
        showing-end ρ text flags (output r) old out c from size showing new over (size + (length text - from)) h
        (written-as (drop from text) e (fits ρ text flags (output r) old out c from size showing room (omega (arith, l, h, ap length e)) w))
