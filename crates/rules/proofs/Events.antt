-- Where the events of a scan stand: their kinds are 1 to 12, and none is behind the last byte taken, or where the whole is left.
use Rattle.std.proofs.Common.{◌≡◌, List, [], ◌∷◌, ◌++◌, ℕ, suc, ◌+◌, ◌-◌, ◌≤◌, arith, eqb, ltb, length, take, drop, length-drop, length-take-le}
use Rattle.std.specs.Prelude.{All}
use Rattle.std.proofs.lemmas.List.Elements.{All-nil, All-cons, All-append}
use Rattle.lexical.specs.Text.{byte, run}
use Rattle.lexical.specs.Byte.{isSpaceOrTab}
use Rattle.lexical.proofs.Cases.{split}
use Rattle.lexical.proofs.Run.{run-length}
use Rattle.rules.specs.Block.{indentation}
use Rattle.rules.specs.Lines.{Line}
use Rattle.rules.specs.Trace.{Event, event, htmlText, htmlFlow, lineEndingKind, spaceOrTab, htmlTextData, htmlFlowData, pair, pairOf, taken, textLines, textEvents, flowLines, flowEvents}
use Rattle.rules.proofs.LineLaws.{sizes, cut-size}

-- the bytes taken are those between start and stop
pub taken-size : (text : List ℕ) (start stop : ℕ) → start ≤ stop → stop ≤ length text → start + sizes (taken text start stop) ≡ stop
taken-size text start stop h w =
    let l : length (take (stop - start) (drop start text)) ≡ stop - start = length-take-le (stop - start) (drop start text) (omega (arith, length-drop start text)) in
    omega (arith, cut-size (take (stop - start) (drop start text)), l)

-- of a kind, and not behind n
abbrev pub Placed : ℕ → Event → Type 0
Placed n e = (1 ≤ e.kind) × (e.kind ≤ 12) × (e.index ≤ n)

pub record AllPlaced (n : ℕ) (es : List Event) : Type 0 where
  pub each : All (Placed n) es

module _ (n : ℕ) where
  none : AllPlaced n []
  none = record { each = All-nil (Placed n) }

  before : (k i : ℕ) {es : List Event} → 1 ≤ k → k ≤ 12 → i ≤ n → AllPlaced n es → AllPlaced n (event k i ∷ es)
  before k i {es} lo hi h t = record { each = All-cons (Placed n) (event k i) es (lo, hi, h) t.each }

  -- events behind events
  then : {a b : List Event} → AllPlaced n a → AllPlaced n b → AllPlaced n (a ++ b)
  then {a} {b} s t = record { each = All-append (Placed n) a b s.each t.each }

  module _ (k i j : ℕ) (lo : 1 ≤ k) (hi : k ≤ 11) (a : i ≤ n) (b : j ≤ n) where
    both : AllPlaced n (pair k i j)
    both = before k i lo (omega arith) a (before (suc k) j (omega arith) (omega arith) b none)

    some : AllPlaced n (pairOf k i j)
    some = split (ltb i j) (λ h. rw h both) (λ h. rw h none)

  text-lines : (i : ℕ) (ls : List Line) → i + sizes ls ≤ n → AllPlaced n (textLines i ls)
  unfolding textLines
  text-lines i [] h = none
  text-lines i (l ∷ ls) h =
      let from : ℕ = i + length l.lead in
      let at : ℕ = from + run isSpaceOrTab l.content in
      let to : ℕ = from + length l.content in
      let r = run-length isSpaceOrTab l.content in
      then (both lineEndingKind i from (omega arith) (omega arith) (omega arith) (omega arith))
      (then (some spaceOrTab from at (omega arith) (omega arith) (omega arith) (omega arith))
      (then (both htmlTextData at to (omega arith) (omega arith) (omega arith) (omega arith)) (text-lines to ls (omega arith))))

  pub text-placed : (start stop : ℕ) (ls : List Line) → start + sizes ls ≤ n → stop ≤ n → AllPlaced n (textEvents start stop ls)
  unfolding textEvents
  text-placed start stop [] h e = none
  text-placed start stop (l ∷ ls) h e =
      let to : ℕ = start + length l.content in
      before htmlText start (omega arith) (omega arith) (omega arith)
      (then (both htmlTextData start to (omega arith) (omega arith) (omega arith) (omega arith))
      (then (text-lines to ls (omega arith)) (before (suc htmlText) stop (omega arith) (omega arith) e none)))

  flow-lines : (i : ℕ) (ls : List Line) → i + sizes ls ≤ n → AllPlaced n (flowLines i ls)
  unfolding flowLines
  flow-lines i [] h = none
  flow-lines i (l ∷ ls) h =
      let from : ℕ = i + length l.lead in
      let to : ℕ = from + length l.content in
      then (both lineEndingKind i from (omega arith) (omega arith) (omega arith) (omega arith))
      (then (some htmlFlowData from to (omega arith) (omega arith) (omega arith) (omega arith)) (flow-lines to ls (omega arith)))

  pub flow-placed : (start exit : ℕ) (ls : List Line) → start + sizes ls ≤ n → exit ≤ n → AllPlaced n (flowEvents start exit ls)
  unfolding flowEvents
  flow-placed start exit [] h e = none
  flow-placed start exit (l ∷ ls) h e =
      let inside : ℕ = start + indentation l.content in
      let to : ℕ = start + length l.content in
      let r = run-length (λ b. eqb b (byte " ")) l.content in
      before htmlFlow start (omega arith) (omega arith) (omega arith)
      (then (some htmlFlowData start inside (omega arith) (omega arith) (omega arith) (omega arith))
      (then (both htmlFlowData inside to (omega arith) (omega arith) (omega arith) (omega arith))
      (then (flow-lines to ls (omega arith)) (before (suc htmlFlow) exit (omega arith) (omega arith) e none))))
