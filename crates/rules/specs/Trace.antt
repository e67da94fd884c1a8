-- Traces of both scans and the reading of a trace, SCOPE, Traces. The events of a scan are a function of the text, the start and the answer: the bytes taken are
-- cut into lines, and the point of an event is that of its index. A trace is the bytes of the events' records and of a last one, each number in it a field of so
-- many bytes.
use Rattle.std.specs.Prelude.{ℕ, zero, suc, ◌+◌, ◌-◌, ◌*◌, ◌/◌, ◌%◌, Bool, false, ◌&&◌, ◌||◌, not, List, [], ◌∷◌, ◌++◌, map, eqb, leb, ltb, length, take, drop, get_or}
use Rattle.lexical.specs.Text.{first, run}
use Rattle.lexical.specs.Byte.{isSpaceOrTab}
use Rattle.lexical.specs.Line.{lineEnding}
use Rattle.lexical.specs.Point.{pointAt}
use Rattle.lexical.specs.declared.event.Point.{Point}
use Rattle.rules.specs.Search.{choose}
use Rattle.rules.specs.Refusal.{check, refusal}
use Rattle.rules.specs.Lines.{Line, cutLines}
use Rattle.rules.specs.Block.{indentation}
use Rattle.rules.specs.Scan.{InlineAnswer, foundInline, noInline, refusedInline, BlockAnswer, foundBlock, noBlock, refusedBlock}

-- ---- events
-- an event: its kind and its index; an enter is odd, its exit one more
pub record Event : Type 0 where
  pub kind : ℕ
  pub index : ℕ

abbrev pub event : ℕ → ℕ → Event
event k i = record { kind = k; index = i }

-- the kinds of the enters
abbrev pub htmlFlow : ℕ
htmlFlow = 1

abbrev pub htmlFlowData : ℕ
htmlFlowData = 3

abbrev pub lineEndingKind : ℕ
lineEndingKind = 5

abbrev pub htmlText : ℕ
htmlText = 7

abbrev pub htmlTextData : ℕ
htmlTextData = 9

abbrev pub spaceOrTab : ℕ
spaceOrTab = 11

-- an enter at i and its exit at j
abbrev pub pair : ℕ → ℕ → ℕ → List Event
pair k i j = event k i ∷ event (suc k) j ∷ []

-- the same, where there is a byte between
abbrev pub pairOf : ℕ → ℕ → ℕ → List Event
pairOf k i j = choose (ltb i j) (λ _. pair k i j) (λ _. [])

-- the lines of the bytes from start to stop
abbrev pub taken : List ℕ → ℕ → ℕ → List Line
taken text start stop = cutLines false [] (take (stop - start) (drop start text))

-- inline: behind the first line, whose content ends at i: the ending, leading spaces or tabs, and the data of each
unfoldable pub textLines : ℕ → List Line → List Event
textLines i [] = []
textLines i (l ∷ ls) =
    pair lineEndingKind i (i + length l.lead)
    ++ (pairOf spaceOrTab (i + length l.lead) (i + length l.lead + run isSpaceOrTab l.content)
    ++ (pair htmlTextData (i + length l.lead + run isSpaceOrTab l.content) (i + length l.lead + length l.content)
    ++ textLines (i + length l.lead + length l.content) ls))

unfoldable pub textEvents : ℕ → ℕ → List Line → List Event
textEvents start stop [] = []
textEvents start stop (l ∷ ls) =
    event htmlText start
    ∷ (pair htmlTextData start (start + length l.content)
    ++ (textLines (start + length l.content) ls ++ (event (suc htmlText) stop ∷ [])))

-- block: behind the first line: the ending, and the data of each line that has bytes
unfoldable pub flowLines : ℕ → List Line → List Event
flowLines i [] = []
flowLines i (l ∷ ls) =
    pair lineEndingKind i (i + length l.lead)
    ++ (pairOf htmlFlowData (i + length l.lead) (i + length l.lead + length l.content)
    ++ flowLines (i + length l.lead + length l.content) ls)

-- the indentation has a pair of its own; the whole is left at exit
unfoldable pub flowEvents : ℕ → ℕ → List Line → List Event
flowEvents start exit [] = []
flowEvents start exit (l ∷ ls) =
    event htmlFlow start
    ∷ (pairOf htmlFlowData start (start + indentation l.content)
    ++ (pair htmlFlowData (start + indentation l.content) (start + length l.content)
    ++ (flowLines (start + length l.content) ls ++ (event (suc htmlFlow) exit ∷ []))))

-- a line of no bytes is the last one taken
unfoldable pub endsEmpty : List Line → Bool
endsEmpty [] = false
endsEmpty (l ∷ []) = eqb (length l.content) 0
endsEmpty (l ∷ m ∷ ls) = endsEmpty (m ∷ ls)

-- docs/DECISIONS.md, 1: the Rust leaves kinds 1 to 5 at a lazy line behind a line of no bytes one ending too far
unfoldable pub flowExit : List ℕ → ℕ → ℕ → ℕ → Bool → ℕ
flowExit text start kind stop closed =
    choose (leb kind 5 && (not closed && endsEmpty (taken text start stop))) (λ _. stop + lineEnding (drop stop text)) (λ _. stop)

-- ---- records
-- a record: kind, line, column, index and vs; a last one: kind, stop, and carry or block kind; or a refusal
pub data Record : Type 0 where
  eventRecord : ℕ → ℕ → ℕ → ℕ → ℕ → Record
  lastRecord : ℕ → ℕ → ℕ → Record
  refusedRecord : ℕ → Record

-- of an event, by the point of its index
abbrev pub atPoint : ℕ → Point → Record
atPoint kind p = eventRecord kind p.line p.column p.index p.vs

abbrev pub eventRecords : List ℕ → List Event → List Record
eventRecords text es = map (λ e. atPoint e.kind (pointAt text e.index)) es

-- of a scan: its events, then 13 with stop and carry; one that finds nothing has only the last, with the index passed in as stop, and one refused has none
unfoldable pub inlineRecords : List ℕ → ℕ → InlineAnswer → List Record
inlineRecords text start (foundInline stop carry) = eventRecords text (textEvents start stop (taken text start stop)) ++ (lastRecord 13 stop carry ∷ [])
inlineRecords text start (noInline carry) = lastRecord 13 start carry ∷ []
inlineRecords text start (refusedInline n carry) = []

-- of a block, by its kind, its stop and whether a closer was met: its events, then 14 with stop and kind
unfoldable pub flowRecords : List ℕ → ℕ → ℕ → ℕ → Bool → List Record
flowRecords text start kind stop closed =
    eventRecords text (flowEvents start (flowExit text start kind stop closed) (taken text start stop)) ++ (lastRecord 14 stop kind ∷ [])

unfoldable pub blockRecords : List ℕ → ℕ → BlockAnswer → List Record
blockRecords text start (foundBlock b) = flowRecords text start b.kind b.stop b.closed
blockRecords text start noBlock = lastRecord 14 start 0 ∷ []
blockRecords text start (refusedBlock n) = []

-- ---- bytes
-- line, column, index and stop have four bytes each, low first: SCOPE, Long bulletins
abbrev pub wide : ℕ
wide = 4

-- in old traces they have two: SCOPE, Old traces across and back
abbrev pub narrow : ℕ
narrow = 2

-- a number in w bytes, low first
unfoldable pub field : ℕ → ℕ → List ℕ
field zero n = []
field (suc w) n = n % 256 ∷ field w (n / 256)

-- a record, with fields of w bytes
unfoldable pub recordBytes : ℕ → Record → List ℕ
recordBytes w (eventRecord kind line column index vs) = kind ∷ (field w line ++ (field w column ++ (field w index ++ (vs ∷ []))))
recordBytes w (lastRecord kind stop n) = kind ∷ (field w stop ++ (n ∷ []))
recordBytes w (refusedRecord n) = []

unfoldable pub traceBytes : ℕ → List Record → List ℕ
traceBytes w [] = []
traceBytes w (r ∷ rs) = recordBytes w r ++ traceBytes w rs

-- ---- traces
abbrev pub inlineTrace : List ℕ → ℕ → InlineAnswer → List ℕ
inlineTrace text start a = traceBytes wide (inlineRecords text start a)

abbrev pub blockTrace : List ℕ → ℕ → BlockAnswer → List ℕ
blockTrace text start a = traceBytes wide (blockRecords text start a)

-- ---- reading
-- the number of w bytes, low first
unfoldable pub number : ℕ → List ℕ → ℕ
number zero s = 0
number (suc w) s = get_or s 0 0 + 256 * number w (drop 1 s)

-- the length of a record of a kind, with fields of w bytes
unfoldable pub recordLength : ℕ → ℕ → ℕ
recordLength w kind = choose (leb kind 12) (λ _. 2 + 3 * w) (λ _. 2 + w)

-- the refusal of the record in front of s, or 0: there is none, its kind is wrong, or it is cut off
unfoldable pub recordRefusal : ℕ → List ℕ → ℕ
recordRefusal w s =
    refusal (check (eqb (length s) 0) 9 ∷ check (eqb (first s) 0 || ltb 14 (first s)) 8 ∷ check (ltb (length s) (recordLength w (first s))) 9 ∷ [])

-- the record in front of s, with fields of w bytes
unfoldable pub recordAt : ℕ → List ℕ → Record
recordAt w s =
    choose (not (eqb (recordRefusal w s) 0)) (λ _. refusedRecord (recordRefusal w s))
    (λ _. choose (leb (first s) 12)
    (λ _. eventRecord (first s) (number w (drop 1 s)) (number w (drop (1 + w) s)) (number w (drop (1 + 2 * w) s)) (get_or s (1 + 3 * w) 0))
    (λ _. lastRecord (first s) (number w (drop 1 s)) (get_or s (1 + w) 0)))

abbrev pub unlessRefused : Record → Record → Record
unlessRefused (eventRecord k l c i v) r = r
unlessRefused (lastRecord k s n) r = r
unlessRefused (refusedRecord n) r = refusedRecord n

-- record n, counted from 0: the first bad record on the way decides; later ones are not looked at
unfoldable pub readTrace : ℕ → ℕ → List ℕ → Record
readTrace w zero s = recordAt w s
readTrace w (suc n) s = unlessRefused (recordAt w s) (readTrace w n (drop (recordLength w (first s)) s))
