-- How many events a piece has: at most two for each of its bytes. An ending and the line behind it have no more, since the ending has a byte and each pair
-- another; what is left for the first line is paid for by two of its bytes.
use Rattle.std.proofs.Common.{◌≡◌, refl, ap, List, ℕ, zero, suc, ◌+◌, ◌*◌, ◌-◌, ◌<◌, ◌≤◌, arith, eqb, ltb, length, drop, length-append, eqb-true, ltb-true}
use borrow.Author.Tests.{eqb-false}
use Rattle.lexical.specs.Text.{run}
use Rattle.lexical.specs.Byte.{isSpaceOrTab}
use Rattle.lexical.specs.Line.{lineEnding, lineLength}
use Rattle.lexical.proofs.Cases.{split}
use Rattle.rules.specs.Trace.{pairOf, spaceOrTab, htmlFlowData}
use Rattle.rules.proofs.Cut.{lineFrom, lineTo, to-within}
use Rattle.records.specs.Answer.{enterNumber, dataOf}
use Rattle.records.specs.declared.event.Form.{Form}
use Rattle.records.specs.declared.event.Form.TheVariants.{Text, Flow}
use Rattle.trace.specs.Walk.{dataFrom, lineEvents, restEvents, firstTo, leadTo, pieceEvents}
use Rattle.trace.proofs.Walks.{first-within, text-count, flow-count, line-count, rest-one, rest-none}
use Rattle.trace.proofs.Pieces.{lead-from, piece-count}

pair-most : (k i j : ℕ) → length (pairOf k i j) ≤ 2 * (j - i)
pair-most k i j = split (ltb i j) (λ t. let h = ltb-true i j t in rw t (omega arith)) (λ t. rw t (omega arith))

-- ---- one line: inline it is to have a byte behind its spaces and tabs
abbrev Solid : Form → List ℕ → Type 0
Solid Text s = run isSpaceOrTab s < lineLength s
Solid Flow s = Unit {0}

module _ (s : List ℕ) (i : ℕ) (e : lineEnding (drop i s) ≡ 0 → ⊥) where
  abbrev from : ℕ
  from = lineFrom s i

  line-most : (form : Form) → Solid form (drop from s) → length (lineEvents form s i) ≤ 2 * (lineTo s i - i)
  line-most Text h = omega (arith, e, line-count s i Text, text-count s from refl, pair-most spaceOrTab from (dataFrom s from))
  line-most Flow h = omega (arith, e, line-count s i Flow, flow-count s from refl, pair-most htmlFlowData from (firstTo s from))

-- ---- all lines, where each is as it is to be
module _ (form : Form) (s : List ℕ) (each : (i : ℕ) → i ≤ length s → (lineEnding (drop i s) ≡ 0 → ⊥) → Solid form (drop (lineFrom s i) s)) where
  rest-by : (n i : ℕ) → length s - i < n → i ≤ length s → length (restEvents form s i) ≤ 2 * (length s - i)
  rest-by zero i l h = absurd (omega arith)
  rest-by (suc n) i l h =
      split (eqb (lineEnding (drop i s)) 0) (λ t. omega (arith, ap length (rest-none s i form (eqb-true (lineEnding (drop i s)) 0 t))))
      (λ t.
      let e = eqb-false (lineEnding (drop i s)) 0 t in
      let to = to-within s i h in
      let r = rest-by n (lineTo s i) (omega (arith, e)) to in
      omega (arith, e, ap length (rest-one s i form e), length-append (lineEvents form s i) (restEvents form s (lineTo s i)), line-most s i e form (each i h e)))

  -- ---- a whole piece
  pub piece-most : (i exit : ℕ) → i ≤ length s → leadTo form s i + 2 ≤ firstTo s i → length (pieceEvents form s i exit) ≤ 2 * (length s - i)
  piece-most i exit h l =
      let k = enterNumber (dataOf form) in
      let w = first-within s i h in
      omega (arith, piece-count form s i exit, pair-most k i (leadTo form s i), lead-from form s i, rest-by (suc (length s - firstTo s i)) (firstTo s i) (omega arith) w)
