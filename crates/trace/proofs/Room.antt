-- Room for two records for each byte of a text, and for a last one, suffices: what a scan finds has two bytes in its first line, in a block behind the
-- indentation; and no line behind an ending of an inline piece is blank, since the text has no blank line and the piece ends in `>`.
use Rattle.std.proofs.Common.{◌≡◌, refl, sym, ◌∙◌, ap, false, not, List, [], ◌∷◌, ℕ, suc, ◌+◌, ◌*◌, ◌-◌, ◌<◌, ◌≤◌, arith, eqb, ltb, leb, length, get_or, take, drop, length-drop, length-take-le, eqb-true, ltb-true, ltb-false}
use Rattle.lexical.specs.Text.{byte, run}
use Rattle.lexical.specs.Byte.{isSpaceOrTab, isLineEndingByte, isWhitespace}
use Rattle.lexical.specs.Line.{lineEnding, lineEndings, lineLength}
use Rattle.lexical.proofs.Cases.{split}
use Rattle.lexical.proofs.Suffix.{drop-take}
use Rattle.rules.specs.Reading.{crate as ofCrate}
use Rattle.rules.specs.Search.{somewhere}
use Rattle.rules.specs.Refusal.{blankFollows}
use Rattle.rules.specs.Lines.{Line, line, flagged}
use Rattle.rules.specs.Block.{indentation, kindAt, kindOf}
use Rattle.rules.specs.Scan.{InlineAnswer, foundInline, noInline, refusedInline, inlineScan, Found, BlockAnswer, foundBlock, noBlock, refusedBlock, blockOf, blockAt, linesAt, blockScan}
use Rattle.rules.specs.Trace.{wide, lastRecord, inlineTrace, blockTrace, inlineRecords, blockRecords, traceBytes, flowExit}
use Rattle.rules.specs.ReadBack.{RoomSuffices}
use Rattle.rules.specs.declared.Rules.{Rules}
use Rattle.rules.proofs.Cut.{behind, lineFrom, content-length, run-content, run-within, space-apart}
use Rattle.rules.proofs.LineLaws.{contentFrom, first-line}
use Rattle.rules.proofs.Fronts.{run-front, run-least, lastOr, last-front}
use Rattle.rules.proofs.Blanks.{no-blank-front, not-blank, some-data}
use Rattle.records.proofs.Records.{last-bytes, one-record}
use Rattle.flow.proofs.OpenMeans.{nothing-kind, not-opened, nothing-opened}
use Rattle.records.specs.declared.event.Form.TheVariants.{Text, Flow}
use Rattle.trace.specs.Walk.{pieceEvents}
use Rattle.trace.proofs.Pieces.{textOf, flowOf, text-trace, flow-trace, piece-length}
use Rattle.trace.proofs.Stops.{admitted, found-passes, found-at}
use Rattle.trace.proofs.BlockStops.{begun, block-admitted, block-found-lies, block-found-passes, block-found-at}
use Rattle.trace.proofs.Ends.{Opened, opened}
use Rattle.trace.proofs.Counts.{piece-most}

-- a trace of only a last record
last-most : (kind stop c n : ℕ) → length (traceBytes wide (lastRecord kind stop c ∷ [])) ≤ 28 * n + 6
last-most kind stop c n = omega (arith, ap length (one-record wide (lastRecord kind stop c)), last-bytes wide kind stop c)

-- ---- inline
-- F is the text before the stop
module _ (text : List ℕ) (i stop : ℕ) (o : Opened text i stop) where
  abbrev F : List ℕ
  F = take stop text

  front-length : length F ≡ stop
  front-length = length-take-le stop text o.to

  -- its last byte is `>`
  last-solid : isWhitespace (lastOr 0 F) ≡ false
  last-solid =
      let f = o.far in
      let t = o.to in
      let z : stop ≡ suc (stop - 1) = omega arith in
      ap (λ n. isWhitespace (lastOr 0 (take n text))) z ∙ ap isWhitespace (last-front (stop - 1) 0 text (omega arith) ∙ o.mark)

  -- the first line has two bytes
  first-long : 2 ≤ lineLength (drop i F)
  first-long =
      let f = o.far in
      omega (arith, ap lineLength (drop-take i stop text), run-least (λ b. not (isLineEndingByte b)) 2 (stop - i) (drop i text) o.long (omega arith))

  module _ (filled : somewhere blankFollows text ≡ false) where
    -- no line behind an ending is blank
    lines-solid : (j : ℕ) → j ≤ length F → (lineEnding (drop j F) ≡ 0 → ⊥) → run isSpaceOrTab (drop (lineFrom F j) F) < lineLength (drop (lineFrom F j) F)
    lines-solid j h e = some-data (drop (lineFrom F j) F) (not-blank F j (no-blank-front stop text filled) last-solid h e)

    text-most : length (pieceEvents Text F i stop) ≤ 2 * length text
    text-most =
        let f = o.far in
        let t = o.to in
        omega (arith, piece-most Text F lines-solid i stop (omega (arith, front-length)) (omega (arith, first-long)), front-length)

module _ (text : List ℕ) (i k : ℕ) where
  inline-most : (a : InlineAnswer) → inlineScan ofCrate text i k ≡ a → length (inlineTrace text i a) ≤ 28 * length text + 6
  unfolding inlineRecords traceBytes
  inline-most (foundInline stop c) e =
      let m = admitted text i k (found-passes text i k stop c e) in
      let o = opened text i k m.counted stop c (found-at text i k stop c e) in
      let f = o.far in
      omega (
        arith,
        ap length (text-trace text i stop c (omega arith)),
        piece-length text (textOf i stop c),
        text-most text i stop o m.filled,
      )
  inline-most (noInline c) e = last-most 13 i c (length text)
  inline-most (refusedInline n c) e = omega arith

-- ---- blocks
-- fewer than two bytes open no block
short-none : (ρ : Rules) (f : ℕ) (s : List ℕ) → length s < 2 → kindAt ρ f s ≡ 0
short-none ρ f [] h = nothing-opened ρ f
short-none ρ f (x ∷ []) h =
    split (eqb x (byte "<")) (λ t. ap (λ b. kindAt ρ f (b ∷ [])) (eqb-true x (byte "<") t) ∙ nothing-kind ρ f) (λ t. not-opened ρ f x [] t)
short-none ρ f (x ∷ y ∷ ys) h = absurd (omega arith)

-- a line that opens one has two behind its indentation
kind-long : (ρ : Rules) (l : Line) → (kindOf ρ l ≡ 0 → ⊥) → indentation l.content + 2 ≤ length l.content
unfolding kindOf
kind-long ρ l h =
    let s = drop (indentation l.content) l.content in
    split (leb (indentation l.content) 3)
    (λ d. split (ltb (length s) 2) (λ t. absurd (h (rw d (short-none ρ l.flag s (ltb-true (length s) 2 t)))))
    (λ t. omega (arith, ltb-false (length s) 2 t, length-drop (indentation l.content) l.content)))
    (λ d. absurd (h (rw d)))

-- the content of the first line of a block, which begins at i
record FirstLine (content : List ℕ) (i stop : ℕ) : Type 0 where
  pub long : indentation content + 2 ≤ length content
  pub to : i + length content ≤ stop

module _ (text flags : List ℕ) (i : ℕ) where
  begun-at : (b : Found) → blockAt ofCrate text flags i ≡ foundBlock b → FirstLine (contentFrom text i) i b.stop
  unfolding blockAt linesAt
  begun-at b f =
      let n = lineEndings (take i text) in
      let l = line (get_or (drop n flags) 0 0) [] (contentFrom text i) in
      let g = begun i l (flagged (drop 1 (drop n flags)) (behind (drop (i + lineLength (drop i text)) text))) b (sym (ap (blockOf ofCrate i) (first-line text flags i n)) ∙ f) in
      record { long = kind-long ofCrate l g.opens; to = g.first }

  -- the first line of the front is that of the text
  flow-most : (stop exit : ℕ) → FirstLine (contentFrom text i) i stop → i ≤ length text → stop ≤ length text
      → length (pieceEvents Flow (take stop text) i exit) ≤ 2 * length text
  flow-most stop exit b h w =
      let s = drop i text in
      let F = take stop text in
      let size : length F ≡ stop = length-take-le stop text w in
      let cut : drop i F ≡ take (stop - i) s = drop-take i stop text in
      let long = b.long in
      let to = b.to in
      let content = content-length s in
      let inner = run-content (λ x. eqb x (byte " ")) space-apart s in
      let line-is = ap lineLength cut ∙ run-front (λ x. not (isLineEndingByte x)) (stop - i) s (omega arith) in
      let indent-is = ap indentation cut ∙ run-front (λ x. eqb x (byte " ")) (stop - i) s (omega (arith, run-within (λ x. eqb x (byte " ")) space-apart s)) in
      omega (arith, piece-most Flow F (λ j g e. tt) i exit (omega arith) (omega arith))

  block-most : (a : BlockAnswer) → blockScan ofCrate text flags i ≡ a → length (blockTrace text i a) ≤ 28 * length text + 6
  unfolding blockRecords traceBytes
  block-most (foundBlock b) e =
      let m = block-admitted text flags i (block-found-passes text flags i b e) in
      let at = block-found-at text flags i b e in
      let w = block-found-lies text flags i b e in
      let exit = flowExit text i b.kind b.stop b.closed in
      omega (
        arith,
        ap length (flow-trace text i b w.from),
        piece-length text (flowOf text i b),
        flow-most b.stop exit (begun-at b at) m.within w.to,
      )
  block-most noBlock e = last-most 14 i 0 (length text)
  block-most (refusedBlock n) e = omega arith

pub room-suffices : RoomSuffices
room-suffices = record { inline = λ text i k. inline-most text i k _ refl; block = λ text flags i. block-most text flags i _ refl }
