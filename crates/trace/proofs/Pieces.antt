-- Laws of a whole piece: its events by walking are those of its lines.
use Rattle.std.proofs.Common.{◌≡◌, sym, ◌∙◌, ap, false, List, [], ◌∷◌, ◌++◌, ℕ, suc, ◌+◌, ◌*◌, ◌≤◌, arith, eqb, length, take, drop, length-append, drop-drop}
use Rattle.lexical.specs.Text.{byte}
use Rattle.lexical.specs.Line.{lineLength}
use Rattle.lexical.proofs.Suffix.{drop-take}
use Rattle.rules.specs.Lines.{cutLines}
use Rattle.rules.specs.Trace.{event, pair, pairOf, htmlTextData, textEvents, flowEvents, taken, flowExit, inlineRecords, flowRecords, inlineTrace}
use Rattle.rules.specs.Scan.{Found, foundInline}
use Rattle.rules.proofs.Cut.{cut-first, content-length, run-content, run-within, space-apart}
use Rattle.records.specs.Answer.{enterNumber, wholeOf, dataOf, formNumber}
use Rattle.records.specs.declared.event.Name.{Name}
use Rattle.records.specs.declared.event.Form.{Form}
use Rattle.records.specs.declared.event.Form.TheVariants.{Text, Flow}
use Rattle.trace.specs.Writing.{eventLength, lastLength, endedBytes, flowTrace}
use Rattle.trace.specs.Walk.{restEvents, firstTo, leadTo, pieceEvents, pieceTrace}
use Rattle.trace.specs.declared.piece.Piece.{Piece}
use Rattle.trace.proofs.Marks.{trace-length}
use Rattle.trace.proofs.Walks.{none, first-within}

-- ---- the first line
pub lead-from : (form : Form) (s : List ℕ) (i : ℕ) → i ≤ leadTo form s i
lead-from Text s i = omega arith
lead-from Flow s i = omega arith

pub lead-within : (form : Form) (s : List ℕ) (i : ℕ) → leadTo form s i ≤ firstTo s i
lead-within Text s i = omega arith
lead-within Flow s i = omega (arith, run-within (λ b. eqb b (byte " ")) space-apart (drop i s))

-- ---- the events, by the numbers that are found on the way
module _ (form : Form) (s : List ℕ) (i exit : ℕ) where
  pub piece-is : {whole of-line : Name} {lead first x : ℕ} {front : List ℕ} → whole ≡ wholeOf form → of-line ≡ dataOf form → lead ≡ leadTo form s i → first ≡ firstTo s i
      → front ≡ s → x ≡ first
      → pieceEvents form s i exit
      ≡ event (enterNumber whole) i
      ∷ (pairOf (enterNumber of-line) i lead ++ (pair (enterNumber of-line) lead first ++ (restEvents form front x ++ (event (suc (enterNumber whole)) exit ∷ []))))
  unfolding pieceEvents
  piece-is w d l f b e = rw (e, b, f, l, d, w)

  pub piece-count : length (pieceEvents form s i exit) ≡ 4 + length (pairOf (enterNumber (dataOf form)) i (leadTo form s i)) + length (restEvents form s (firstTo s i))
  unfolding pieceEvents
  piece-count =
      let k = enterNumber (dataOf form) in
      let lead = leadTo form s i in
      let first = firstTo s i in
      let rest = restEvents form s first in
      let exits = event (suc (enterNumber (wholeOf form))) exit ∷ [] in
      omega (arith, length-append (pairOf k i lead) (pair k lead first ++ (rest ++ exits)), length-append rest exits)

-- there is room for each marking, and each is within the text
pub ruleset piece_room = (piece-count, lead-from, lead-within, first-within)

-- where a piece is left adds no event
pub same-count : (form : Form) (s : List ℕ) (i a b : ℕ) → length (pieceEvents form s i a) ≡ length (pieceEvents form s i b)
same-count form s i a b = piece-count form s i a ∙ sym (piece-count form s i b)

-- ---- the events of the lines that were taken
text-events : (text : List ℕ) (i stop : ℕ) → i ≤ stop → textEvents i stop (taken text i stop) ≡ pieceEvents Text (take stop text) i stop
unfolding textEvents pieceEvents restEvents
text-events text i stop h =
    let s = drop i (take stop text) in
    ap (λ t. textEvents i stop (cutLines false [] t)) (sym (drop-take i stop text))
    ∙ rw (cut-first [] s, content-length s, drop-drop (lineLength s) i (take stop text), none htmlTextData i i (omega arith))

flow-events : (text : List ℕ) (i exit stop : ℕ) → i ≤ stop → flowEvents i exit (taken text i stop) ≡ pieceEvents Flow (take stop text) i exit
unfolding flowEvents pieceEvents restEvents
flow-events text i exit stop h =
    let s = drop i (take stop text) in
    ap (λ t. flowEvents i exit (cutLines false [] t)) (sym (drop-take i stop text))
    ∙ rw (cut-first [] s, content-length s, run-content (λ b. eqb b (byte " ")) space-apart s, drop-drop (lineLength s) i (take stop text))

-- ---- the traces
abbrev pub textOf : ℕ → ℕ → ℕ → Piece
textOf i stop carry = record { form = Text; index = i; stop = stop; exit = stop; value = carry }

abbrev pub flowOf : List ℕ → ℕ → Found → Piece
flowOf text i b = record { form = Flow; index = i; stop = b.stop; exit = flowExit text i b.kind b.stop b.closed; value = b.kind }

pub text-trace : (text : List ℕ) (i stop carry : ℕ) → i ≤ stop → inlineTrace text i (foundInline stop carry) ≡ pieceTrace text (textOf i stop carry)
unfolding inlineRecords pieceTrace
text-trace text i stop carry h = ap (λ es. endedBytes text es 13 stop carry) (text-events text i stop h)

pub flow-trace : (text : List ℕ) (i : ℕ) (b : Found) → i ≤ b.stop → flowTrace text i b.kind b.stop b.closed ≡ pieceTrace text (flowOf text i b)
unfolding flowRecords pieceTrace
flow-trace text i b h = ap (λ es. endedBytes text es 14 b.stop b.kind) (flow-events text i (flowExit text i b.kind b.stop b.closed) b.stop h)

pub piece-length : (text : List ℕ) (p : Piece) → length (pieceTrace text p) ≡ eventLength * length (pieceEvents p.form (take p.stop text) p.index p.exit) + lastLength
unfolding pieceTrace
piece-length text p = trace-length text (pieceEvents p.form (take p.stop text) p.index p.exit) (formNumber p.form) p.stop p.value
