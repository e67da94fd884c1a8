-- Laws of walking over lines: the numbers of a line in order, how many events it has, and the events of all lines as those of one and of the rest.
use Rattle.std.proofs.Common.{◌≡◌, refl, ap, List, [], ◌++◌, append_assoc, ℕ, ◌+◌, ◌<◌, ◌≤◌, arith, length, take, drop, length-append, length-drop, lt-ltb, le-ltb, not}
use Rattle.lexical.specs.Byte.{isSpaceOrTab, isLineEndingByte}
use Rattle.lexical.specs.Line.{lineEnding}
use Rattle.lexical.proofs.Run.{run-length}
use Rattle.lexical.proofs.Ending.{ending-within}
use Rattle.rules.specs.Trace.{pair, pairOf, spaceOrTab, htmlFlowData, htmlTextData, lineEndingKind, textLines, flowLines}
use Rattle.rules.proofs.Cut.{behind, behind-none, behind-one, lineFrom, lineTo, run-within, blank-apart, run-content, content-length, lead-length}
use Rattle.records.specs.declared.event.Form.{Form}
use Rattle.records.specs.declared.event.Form.TheVariants.{Text, Flow}
use Rattle.trace.specs.declared.pen.Pen.{Pen}
use Rattle.trace.specs.Walk.{firstTo, dataFrom, dataEvents, lineEvents, restEvents}

pub some : (k i j : ℕ) → i < j → pairOf k i j ≡ pair k i j
some k i j h = rw (lt-ltb i j h)

pub none : (k i j : ℕ) → j ≤ i → pairOf k i j ≡ []
none k i j h = rw (le-ltb i j h)

module _ (s : List ℕ) (i : ℕ) where
  -- ---- the line at i
  pub first-within : i ≤ length s → firstTo s i ≤ length s
  first-within h = omega (arith, run-length (λ b. not (isLineEndingByte b)) (drop i s), length-drop i s)

  pub data-within : dataFrom s i ≤ firstTo s i
  data-within = omega (arith, run-within isSpaceOrTab blank-apart (drop i s))

  -- its events, by the numbers that are found on the way
  module _ {form : Form} where
    pub text-is : {data-from to : ℕ} → form ≡ Text → data-from ≡ dataFrom s i → to ≡ firstTo s i → dataEvents form s i ≡ pairOf spaceOrTab i data-from ++ pair htmlTextData data-from to
    unfolding dataEvents
    text-is is d t = rw (is, d, t)

    pub flow-is : {to : ℕ} → form ≡ Flow → to ≡ firstTo s i → dataEvents form s i ≡ pairOf htmlFlowData i to
    unfolding dataEvents
    flow-is is t = rw (is, t)

    pub text-count : form ≡ Text → length (dataEvents form s i) ≡ 2 + length (pairOf spaceOrTab i (dataFrom s i))
    text-count is = omega (arith, ap length (text-is is refl refl), length-append (pairOf spaceOrTab i (dataFrom s i)) (pair htmlTextData (dataFrom s i) (firstTo s i)))

    pub flow-count : form ≡ Flow → length (dataEvents form s i) ≡ length (pairOf htmlFlowData i (firstTo s i))
    flow-count is = ap length (flow-is is refl)

  -- ---- an ending and the line behind it
  pub line-count : (form : Form) → length (lineEvents form s i) ≡ 2 + length (dataEvents form s (lineFrom s i))
  unfolding lineEvents
  line-count form = omega arith

  -- ---- all lines
  from-lead : i + length (take (lineEnding (drop i s)) (drop i s)) ≡ lineFrom s i
  from-lead = ap (λ n. i + n) (lead-length s i)

  pub rest-one : (form : Form) → (lineEnding (drop i s) ≡ 0 → ⊥) → restEvents form s i ≡ lineEvents form s i ++ restEvents form s (lineTo s i)
  unfolding restEvents lineEvents dataEvents textLines flowLines
  rest-one Text h =
      rw (
        behind-one s i h,
        from-lead,
        run-content isSpaceOrTab blank-apart (drop (lineFrom s i) s),
        content-length (drop (lineFrom s i) s),
        append_assoc (pairOf spaceOrTab (lineFrom s i) (dataFrom s (lineFrom s i))) (pair htmlTextData (dataFrom s (lineFrom s i)) (lineTo s i)) (textLines (lineTo s i) (behind (drop (lineTo s i) s))),
      )
  rest-one Flow h = rw (behind-one s i h, from-lead, content-length (drop (lineFrom s i) s))

  pub rest-none : (form : Form) → lineEnding (drop i s) ≡ 0 → restEvents form s i ≡ []
  unfolding restEvents flowLines textLines
  rest-none Text e = rw (behind-none s i e)
  rest-none Flow e = rw (behind-none s i e)

-- the line at the pen lies in the front, and there is room for each marking of it
pub ruleset line_room = (first-within, data-within, text-count, flow-count, line-count, ending-within)

-- by the pen that stands behind the ending
pub line-is : (form : Form) (pen next : Pen) {from : ℕ} → from ≡ lineFrom pen.front.now pen.point.index → next.front ≡ pen.front → next.point.index ≡ from
    → lineEvents form pen.front.now pen.point.index ≡ pair lineEndingKind pen.point.index from ++ dataEvents form next.front.now next.point.index
unfolding lineEvents
line-is form pen next f b e = rw (b, e, f)
