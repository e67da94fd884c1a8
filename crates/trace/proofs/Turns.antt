-- The loop over lines: what was marked, and the lines that are left at the pen, are what was to be marked at the start.
use Rattle.std.proofs.Common.{◌≡◌, refl, sym, ◌∙◌, ap, List, [], ◌++◌, append_assoc, append-nil, ℕ, ◌+◌, ◌*◌, ◌<◌, ◌≤◌, arith, length, drop, length-append}
use Rattle.lexical.specs.Line.{lineEnding}
use Rattle.rules.specs.Trace.{Event}
use Rattle.rules.proofs.Cut.{lineTo, to-within}
use Rattle.records.specs.declared.event.Form.{Form}
use Rattle.trace.specs.Writing.{eventLength}
use Rattle.trace.specs.Walk.{lineEvents, restEvents}
use Rattle.trace.specs.Marking.{Marked}
use Rattle.trace.specs.declared.pen.Pen.{Pen}
use Rattle.trace.proofs.Marks.{and-then, renamed, marked-none}
use Rattle.trace.proofs.Walks.{rest-one, rest-none}

-- the events of the line at the pen, and of it and all behind it
abbrev pub line : Form → Pen → List Event
line form pen = lineEvents form pen.front.now pen.point.index

abbrev pub rest : Form → Pen → List Event
rest form pen = restEvents form pen.front.now pen.point.index

pub record Left (form : Form) (start pen : Pen) : Type 0 where
  pub done : List Event
  pub marked : Marked start done pen
  pub whole : rest form start ≡ done ++ rest form pen
  pub within : pen.point.index ≤ length pen.front.now

pub left-start : {form : Form} {pen : Pen} → pen.point.index ≤ length pen.front.now → Left form pen pen
left-start {form} {pen} w = record { done = []; marked = marked-none pen; whole = refl; within = w }

module _ {form : Form} {start pen : Pen} (l : Left form start pen) where
  module _ (h : lineEnding (drop pen.point.index pen.front.now) ≡ 0 → ⊥) where
    abbrev behind : List Event
    behind = restEvents form pen.front.now (lineTo pen.front.now pen.point.index)

    one : rest form pen ≡ line form pen ++ behind
    one = rest-one pen.front.now pen.point.index form h

    -- one line further
    pub left-on : {next : Pen} → Marked pen (line form pen) next → next.point.index ≡ lineTo pen.front.now pen.point.index → Left form start next
    left-on {next} m e =
        let same : rest form next ≡ behind = rw (m.kept.front, e) in
        record {
          done = l.done ++ line form pen;
          marked = and-then l.marked m;
          whole = l.whole ∙ ap (λ es. l.done ++ es) (one ∙ ap (λ es. line form pen ++ es) (sym same)) ∙ sym (append_assoc l.done (line form pen) (rest form next));
          within = rw m.kept.front (omega (arith, e, to-within pen.front.now pen.point.index l.within));
        }

    -- there is room for the line at the pen
    pub left-room : start.at + eventLength * length (rest form start) ≤ length start.out.now → pen.at + eventLength * length (line form pen) ≤ length pen.out.now
    left-room r =
        omega (arith, r, l.marked.at-is, l.marked.kept.size, ap length l.whole, length-append l.done (rest form pen), ap length one, length-append (line form pen) behind)

  -- no line is left
  pub left-none : lineEnding (drop pen.point.index pen.front.now) ≡ 0 → Marked start (rest form start) pen
  left-none e = renamed (rest form start) (l.whole ∙ ap (λ es. l.done ++ es) (rest-none pen.front.now pen.point.index form e) ∙ append-nil l.done) l.marked

-- a line has a byte at least
pub further : (front : List ℕ) (i : ℕ) → (lineEnding (drop i front) ≡ 0 → ⊥) → i < lineTo front i
further front i h = omega arith

-- an ending was met
pub met : (r n : ℕ) → r ≡ n → 0 < r → (n ≡ 0 → ⊥)
met r n e h z = omega arith

-- the events of one line more are counted
pub count-on : (front : List ℕ) (form : Form) (i j count n total : ℕ) → (lineEnding (drop i front) ≡ 0 → ⊥) → n ≡ length (lineEvents form front i) → j ≡ lineTo front i
    → count + length (restEvents form front i) ≡ total → count + n + length (restEvents form front j) ≡ total
count-on front form i j count n total h e t c =
    omega (arith, ap length (rest-one front i form h), length-append (lineEvents form front i) (restEvents form front (lineTo front i)), ap (λ k. length (restEvents form front k)) t)
