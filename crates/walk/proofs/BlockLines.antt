-- The lines of a block are passed one by one until the content of one ends at the block's stop. Each line behind the first has a line ending in front, so the
-- place where its content ends is further on, and the stop is met at the last line of the block and at no other.
use Rattle.std.proofs.Common.{◌≡◌, refl, sym, ◌∙◌, ap, subst, Bool, true, false, ◌&&◌, not, List, [], ◌∷◌, ℕ, zero, suc, ◌+◌, ◌-◌, ◌<◌, ◌≤◌, arith, eqb, ltb, length, drop, lt-ltb, le-ltb, ltb-true, ltb-false}
use Rattle.std.proofs.lemmas.List.{drop-drop}
use Rattle.std.specs.Prelude.{Option, Some, None, is_some}
use Rattle.lexical.specs.Line.{lineLength}
use Rattle.lexical.proofs.Cases.{split, clash}
use Rattle.lexical.proofs.Ending.{ending-out}
use Rattle.rules.specs.Search.{choose}
use Rattle.rules.specs.Lines.{Line, linesOf}
use Rattle.rules.specs.Block.{Extent, kindOf, extentOf, stopAfter}
use Rattle.rules.specs.Scan.{Found, BlockAnswer, foundBlock, noBlock, refusedBlock, blockFound, blockOf}
use Rattle.rules.specs.Withhold.{Piece, piece, inline, block, marks, linePieces}
use Rattle.rules.specs.declared.Rules.{Rules}
use Rattle.rules.proofs.Cut.{content-length, lineFrom, lineTo, to-within}
use Rattle.rules.proofs.LineLaws.{contentFrom, stopFrom, stop-from, stop-is}
use Rattle.flow.specs.Answer.{foundOf}
use Rattle.flow.specs.declared.block.Block.{Block}
use Rattle.runs.proofs.Covered.{extent-some}
use Rattle.walk.specs.Remaining.{lineAt, fromLine, BlockEndsAt}
use Rattle.walk.proofs.FromLine.{ending-there, read-to, line-ended, line-within, linesBehind, first-numbered, led-to, next-numbered, no-lines, piecesBehind, no-more, behind-line}

-- ---- what an answer says
abbrev pieceOf : ℕ → BlockAnswer → Piece
pieceOf i (foundBlock b) = piece i b.stop (block b.kind b.closed)
pieceOf i noBlock = piece i i inline
pieceOf i (refusedBlock q) = piece i i inline

abbrev stopOf : BlockAnswer → ℕ
stopOf (foundBlock b) = b.stop
stopOf noBlock = 0
stopOf (refusedBlock q) = 0

abbrev pub isFound : BlockAnswer → Bool
isFound (foundBlock b) = true
isFound noBlock = false
isFound (refusedBlock q) = false

pub found-some : (r : Option Block) → isFound (foundOf r) ≡ is_some r
found-some None = refl
found-some (Some b) = refl

-- ---- the lines of a block
-- the pieces behind a block that ends at stop, of lines of which the first stands behind the index e
unfoldable pub behindBlock : Rules → ℕ → ℕ → List Line → List Piece
behindBlock ρ stop e [] = []
behindBlock ρ stop e (l ∷ ls) =
    choose (ltb e stop) (λ _. behindBlock ρ stop (e + length l.lead + length l.content) ls) (λ _. piecesBehind ρ e (l ∷ ls))

-- behind its stop
passed-by : (ρ : Rules) (stop e : ℕ) (ls : List Line) → stop ≤ e → behindBlock ρ stop e ls ≡ piecesBehind ρ e ls
unfolding behindBlock linePieces marks
passed-by ρ stop e [] a = refl
passed-by ρ stop e (l ∷ ls) a = rw (le-ltb e stop a) refl

module _ (ρ : Rules) (text flags : List ℕ) where
  abbrev L : ℕ → ℕ → List Line
  L e n = linesBehind text flags e n

  -- one line more
  pub pass : (stop e n m : ℕ) → drop m flags ≡ drop 1 (drop n flags) → lineLength (drop e text) ≡ 0 → e < stop → e < length text
      → behindBlock ρ stop e (L e n) ≡ behindBlock ρ stop (lineTo text e) (L (lineTo text e) m)
  unfolding behindBlock
  pass stop e n m r h a b =
      let some = ending-there text e h b in
      rw (next-numbered text flags e n m r some, lt-ltb e stop a) (ap (λ t. behindBlock ρ stop t (L (lineTo text e) m)) (led-to text flags e n))

  -- m further lines
  more-lines : (m e n : ℕ) → lineLength (drop e text) ≡ 0 → linePieces ρ e (marks ρ m false (L e n)) (L e n) ≡ behindBlock ρ (stopFrom e m (L e n)) e (L e n)
  unfolding stopFrom marks linePieces behindBlock
  more-lines zero e n h = sym (passed-by ρ e e (L e n) (omega arith))
  more-lines (suc m) e n h =
      split (ltb e (length text))
      (λ l.
      let b = ltb-true e (length text) l in
      let to = lineTo text e in
      let rest = L (lineTo text e) (n + 1) in
      let r = sym (drop-drop 1 n flags) in
      let k = next-numbered text flags e n (n + 1) r (ending-there text e h b) in
      let stop : stopFrom e (suc m) (L e n) ≡ stopFrom (lineTo text e) m (L (lineTo text e) (n + 1)) = ap (stopFrom e (suc m)) k ∙ ap (λ t. stopFrom t m (L (lineTo text e) (n + 1))) (led-to text flags e n) in
      let far : e < stopFrom e (suc m) (L e n) = omega (arith, stop, stop-from (lineTo text e) m (L (lineTo text e) (n + 1)), ending-there text e h b) in
      ap (λ ls. linePieces ρ e (marks ρ (suc m) false ls) ls) k
      ∙ ap (λ t. linePieces ρ t (marks ρ m false rest) rest) (led-to text flags e n)
      ∙ more-lines m to (n + 1) (line-ended text (lineFrom text e))
      ∙ ap (λ t. behindBlock ρ t to rest) (sym stop)
      ∙ sym (pass (stopFrom e (suc m) (L e n)) e n (n + 1) r h far b))
      (λ l. rw (no-lines text flags e n (ending-out text e (ltb-false e (length text) l))) refl)

  -- the first line of a block, and the lines behind it
  module _ (i n m : ℕ) (r : drop m flags ≡ drop 1 (drop n flags)) where
    abbrev E : ℕ
    E = i + lineLength (drop i text)

    abbrev l : Line
    l = lineAt text flags i n

    abbrev k : ℕ
    k = kindOf ρ l

    abbrev x : Extent
    x = extentOf ρ k l (L E m)

    abbrev further : ℕ
    further = x.lines - 1

    ends : stopAfter i x.lines (l ∷ L E m) ≡ stopFrom E further (L E m)
    ends =
        ap (λ t. stopAfter i t (l ∷ L E m)) (extent-some ρ k l (L E m))
        ∙ stop-is further i l (L E m)
        ∙ ap (λ t. stopFrom (i + t) further (L E m)) (content-length (drop i text))

    opened : eqb k 0 ≡ false
        → linePieces ρ i (marks ρ 0 false (l ∷ L E m)) (l ∷ L E m) ≡ piece i (stopAfter i x.lines (l ∷ L E m)) (block k x.closed) ∷ behindBlock ρ (stopAfter i x.lines (l ∷ L E m)) E (L E m)
    unfolding marks linePieces
    opened h =
        let z : i + 0 ≡ i = omega arith in
        let e : i + 0 + length (contentFrom text i) ≡ E = omega (arith, content-length (drop i text)) in
        simp h
        (ap (λ t. piece t (stopAfter t x.lines (l ∷ L E m)) (block k x.closed) ∷ linePieces ρ (i + 0 + length (contentFrom text i)) (marks ρ further false (L E m)) (L E m)) z
        ∙ ap (λ t. piece i (stopAfter i x.lines (l ∷ L E m)) (block k x.closed) ∷ linePieces ρ t (marks ρ further false (L E m)) (L E m)) e
        ∙ ap (λ ps. piece i (stopAfter i x.lines (l ∷ L E m)) (block k x.closed) ∷ ps) (more-lines further E m (line-ended text i))
        ∙ ap (λ t. piece i (stopAfter i x.lines (l ∷ L E m)) (block k x.closed) ∷ behindBlock ρ t E (L E m)) (sym ends))

    found : (b : Found) → blockOf ρ i (l ∷ L E m) ≡ foundBlock b
        → linePieces ρ i (marks ρ 0 false (l ∷ L E m)) (l ∷ L E m) ≡ piece i b.stop (block b.kind b.closed) ∷ behindBlock ρ b.stop E (L E m)
    unfolding blockOf
    found b o =
        split (eqb k 0) (λ h. let z : noBlock ≡ foundBlock b = simp h at o in clash true refl (sym (ap isFound z)))
        (λ h.
        let f : foundBlock (blockFound ρ k i l (L E m) x) ≡ foundBlock b = simp h at o in
        opened h ∙ ap (λ a. pieceOf i a ∷ behindBlock ρ (stopOf a) E (L E m)) f)

    -- a block that was found is the next piece
    pub block-lines : (b : Found) (stop : ℕ) → b.stop ≡ stop → blockOf ρ i (linesOf (drop n flags) (drop i text)) ≡ foundBlock b
        → fromLine ρ text flags i n ≡ piece i stop (block b.kind b.closed) ∷ behindBlock ρ stop E (L E m)
    unfolding fromLine
    block-lines b stop s o =
        let f = first-numbered text flags i n m r in
        ap (piecesBehind ρ i) f ∙ found b (ap (blockOf ρ i) (sym f) ∙ o) ∙ ap (λ t. piece i t (block b.kind b.closed) ∷ behindBlock ρ t E (L E m)) s

    -- what was found says whether the line opens one
    kind-found : isFound (blockOf ρ i (l ∷ L E m)) ≡ not (eqb k 0)
    unfolding blockOf
    kind-found = split (eqb k 0) (λ h. simp h) (λ h. simp h)

  module _ (i n : ℕ) (a : BlockAnswer) (o : blockOf ρ i (linesOf (drop n flags) (drop i text)) ≡ a) where
    abbrev by-number : drop (n + 1) flags ≡ drop 1 (drop n flags)
    by-number = sym (drop-drop 1 n flags)

    answer-is : blockOf ρ i (lineAt text flags i n ∷ L (i + lineLength (drop i text)) (n + 1)) ≡ a
    answer-is = ap (blockOf ρ i) (sym (first-numbered text flags i n (n + 1) by-number)) ∙ o

    pub opens : not (eqb (kindOf ρ (lineAt text flags i n)) 0) ≡ isFound a
    opens = sym (kind-found i n (n + 1) by-number) ∙ ap isFound answer-is

-- ---- from line to line until the stop
module _ (text flags : List ℕ) (stop : ℕ) where
  pub record Passing (E n e m : ℕ) : Type 0 where
    pub to : e ≤ length text
    pub ended : lineLength (drop e text) ≡ 0
    pub same : (ρ : Rules) → behindBlock ρ stop E (linesBehind text flags E n) ≡ behindBlock ρ stop e (linesBehind text flags e m)

  pub passing-first : (i n e : ℕ) → i ≤ length text → e ≡ i + lineLength (drop i text) → Passing (i + lineLength (drop i text)) n e n
  passing-first i n e l h =
      subst (λ t. Passing (i + lineLength (drop i text)) n t n) (sym h) (record { to = line-within text i l; ended = line-ended text i; same = λ ρ. refl })

  module _ (E n e m : ℕ) (passing : Passing E n e m) where
    -- the next line as the code reads it
    pub passing-next : (from to : ℕ) → from ≡ lineFrom text e → to ≡ from + lineLength (drop from text) → e < length text → (q : ℕ) → drop q flags ≡ drop 1 (drop m flags) → e < stop
        → Passing E n to q
    passing-next from to a b l q r h =
        subst (λ t. Passing E n t q) (sym (read-to text e from to a b))
        (record {
          to = to-within text e passing.to;
          ended = line-ended text (lineFrom text e);
          same = λ ρ. passing.same ρ ∙ pass ρ text flags stop e m q r passing.ended h l;
        })

    rest : (ρ : Rules) → (ltb e stop && ltb e (length text)) ≡ false → behindBlock ρ stop e (linesBehind text flags e m) ≡ fromLine ρ text flags (lineFrom text e) m
    unfolding behindBlock
    rest ρ h =
        split (ltb e stop)
        (λ s.
        let o = ltb-false e (length text) (simp s at h) in
        ap (behindBlock ρ stop e) (no-lines text flags e m (ending-out text e o)) ∙ sym (no-more ρ text flags (lineFrom text e) m (omega arith)))
        (λ s. passed-by ρ stop e (linesBehind text flags e m) (ltb-false e stop s) ∙ behind-line ρ text flags e m passing.ended)

  -- all lines of a block, which begins at i, are passed
  pub block-end : (i k n e m : ℕ) → drop n flags ≡ drop 1 (drop k flags) → Passing (i + lineLength (drop i text)) n e m → (ltb e stop && ltb e (length text)) ≡ false
      → BlockEndsAt text flags i k stop (record { stop = e; line = m })
  block-end i k n e m r passing h =
      record {
        to = passing.to;
        pieces = λ ρ b s o. block-lines ρ text flags i k n r b stop s o ∙ ap (λ ps. piece i stop (block b.kind b.closed) ∷ ps) (passing.same ρ ∙ rest (i + lineLength (drop i text)) n e m passing ρ h);
      }
