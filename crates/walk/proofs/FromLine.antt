-- From a line on. A line leads to the line behind it: the pieces of the lines behind a line's content are those from the next line on, since the ending that
-- leads to a line counts only in a paragraph, and there it has no `<`.
use Rattle.std.proofs.Common.{◌≡◌, refl, sym, ◌∙◌, ap, Bool, true, false, not, List, [], ◌∷◌, ◌++◌, ℕ, zero, suc, ◌+◌, ◌-◌, ◌<◌, ◌≤◌, arith, eqb, ltb, length, get_or, drop, length-drop, drop-drop, ltb-true, ltb-false}
use Rattle.std.proofs.lemmas.List.{drop-drop, drop_all, drop_more}
use Rattle.lexical.specs.Text.{byte, first, run}
use Rattle.lexical.specs.Byte.{isLineEndingByte}
use Rattle.lexical.specs.Line.{lineEnding, lineLength, isBlank}
use Rattle.lexical.proofs.Cases.{split}
use Rattle.lexical.proofs.Ending.{ending-out}
use Rattle.lexical.proofs.Run.{run-length}
use Rattle.rules.specs.Lines.{Line, line, cutLines, flagged, linesOf}
use Rattle.rules.specs.Block.{kindOf, extentOf, inLast, stopAfter}
use Rattle.rules.specs.Withhold.{Piece, piece, block, marks, goesOn, inlinePieces, linePieces}
use Rattle.rules.specs.declared.Rules.{Rules}
use Rattle.rules.proofs.Cut.{behind, behind-none, content-length, lead-length, lineFrom, lineTo}
use Rattle.rules.proofs.LineLaws.{contentFrom, flag-first, first-line, leadAt, next-lines}
use Rattle.flow.proofs.OpenMeans.{nothing-opened}
use Rattle.walk.specs.Remaining.{lineAt, fromLine}

-- ---- where a line's content ends
run-ended : (f : ℕ → Bool) (s : List ℕ) → run f (drop (run f s) s) ≡ 0
unfolding run
run-ended f [] = refl
run-ended f (x ∷ s) = split (f x) (λ h. simp h (run-ended f s)) (λ h. simp h)

pub line-ended : (text : List ℕ) (i : ℕ) → lineLength (drop (i + lineLength (drop i text)) text) ≡ 0
line-ended text i = ap lineLength (sym (drop-drop (lineLength (drop i text)) i text)) ∙ run-ended (λ b. not (isLineEndingByte b)) (drop i text)

pub line-within : (text : List ℕ) (i : ℕ) → i ≤ length text → i + lineLength (drop i text) ≤ length text
line-within text i l = omega (arith, run-length (λ b. not (isLineEndingByte b)) (drop i text), length-drop i text)

some-ending : (x : ℕ) (s : List ℕ) → lineLength (x ∷ s) ≡ 0 → 0 < lineEnding (x ∷ s)
unfolding run lineEnding
some-ending x s e =
    split (eqb x (byte "\n")) (λ h. simp h (omega arith))
    (λ h. split (eqb x (byte "\r")) (λ r. split (eqb (first s) (byte "\n")) (λ l. simp (h, r, l) (omega arith)) (λ l. simp (h, r, l) (omega arith)))
    (λ r. let z : suc (lineLength s) ≡ 0 = simp (h, r) at e in absurd (omega (arith, z))))

-- where it ends before the text does, a line ending stands there
pub ending-there : (text : List ℕ) (e : ℕ) → lineLength (drop e text) ≡ 0 → e < length text → 0 < lineEnding (drop e text)
ending-there text e h l =
    let s = drop_more text e 0 l in
    rw s (some-ending (get_or text e 0) (drop (e + 1) text) (rw s at h))

-- ---- the lines behind it
module _ (text flags : List ℕ) where
  abbrev pub linesBehind : ℕ → ℕ → List Line
  linesBehind e n = flagged (drop n flags) (behind (drop e text))

  -- a line and the lines behind it, m being the next line's number
  pub first-numbered : (i n m : ℕ) → drop m flags ≡ drop 1 (drop n flags)
      → linesOf (drop n flags) (drop i text) ≡ lineAt text flags i n ∷ linesBehind (i + lineLength (drop i text)) m
  first-numbered i n m r = first-line text flags i n ∙ ap (λ t. lineAt text flags i n ∷ flagged t (behind (drop (i + lineLength (drop i text)) text))) (sym r)

  -- the next line, with the ending that leads to it
  abbrev pub ledLine : ℕ → ℕ → Line
  ledLine e n = line (get_or (drop n flags) 0 0) (leadAt text flags e) (contentFrom text (lineFrom text e))

  pub led-to : (e n : ℕ) → e + length (ledLine e n).lead + length (ledLine e n).content ≡ lineTo text e
  led-to e n = omega (arith, lead-length text e, content-length (drop (lineFrom text e) text))

  pub next-numbered : (e n m : ℕ) → drop m flags ≡ drop 1 (drop n flags) → 0 < lineEnding (drop e text)
      → linesBehind e n ≡ ledLine e n ∷ linesBehind (lineTo text e) m
  next-numbered e n m r h = next-lines text flags e n (λ z. absurd (omega (arith, z))) ∙ ap (λ t. ledLine e n ∷ flagged t (behind (drop (lineTo text e) text))) (sym r)

  pub no-lines : (e n : ℕ) → lineEnding (drop e text) ≡ 0 → linesBehind e n ≡ []
  unfolding flagged
  no-lines e n z = rw (behind-none text e z)

-- the next line as the code reads it: where it begins, and where its content ends
module _ (text : List ℕ) (e from to : ℕ) (a : from ≡ lineFrom text e) (b : to ≡ from + lineLength (drop from text)) where
  pub read-to : to ≡ lineTo text e
  read-to = b ∙ ap (λ t. t + lineLength (drop t text)) a

  pub farther : lineLength (drop e text) ≡ 0 → e < length text → e < to
  farther h l = omega (arith, read-to, ending-there text e h l)

-- ---- the ending that leads to a line counts only in a paragraph
stop-led : (i n f : ℕ) (e c : List ℕ) (ls : List Line) → stopAfter i n (line f e c ∷ ls) ≡ stopAfter i n (line f [] c ∷ ls)
unfolding inLast
stop-led i zero f e c ls = refl
stop-led i (suc zero) f e c ls = refl
stop-led i (suc (suc n)) f e c [] = refl
stop-led i (suc (suc n)) f e c (m ∷ ls) = refl

module _ (ρ : Rules) where
  abbrev pub piecesBehind : ℕ → List Line → List Piece
  piecesBehind e ls = linePieces ρ e (marks ρ 0 false ls) ls

  pub same-kind : (f : ℕ) (e c : List ℕ) → kindOf ρ (line f e c) ≡ kindOf ρ (line f [] c)
  unfolding kindOf
  same-kind f e c = refl

  same-extent : (k f : ℕ) (e c : List ℕ) (ls : List Line) → extentOf ρ k (line f e c) ls ≡ extentOf ρ k (line f [] c) ls
  unfolding extentOf
  same-extent k f e c ls = refl

  led : (i j f : ℕ) (e c : List ℕ) (ls : List Line) → i + length e ≡ j + 0 → piecesBehind i (line f e c ∷ ls) ≡ piecesBehind j (line f [] c ∷ ls)
  unfolding marks linePieces
  led i j f e c ls h =
      let k = kindOf ρ (line f [] c) in
      let x = extentOf ρ k (line f [] c) ls in
      rw (same-kind f e c, same-extent (kindOf ρ (line f [] c)) f e c ls)
      (split (eqb k 0)
      (λ a. split (isBlank c)
      (λ b. simp (a, b) (ap (λ t. linePieces ρ (t + length c) (marks ρ 0 false ls) ls) h))
      (λ b. simp (a, b) (ap (λ t. inlinePieces ρ (length (c ++ goesOn (marks ρ 0 true ls) ls)) t false (c ++ goesOn (marks ρ 0 true ls) ls) ++ linePieces ρ (t + length c) (marks ρ 0 true ls) ls) h)))
      (λ a. simp a
      (ap (λ t. piece (i + length e) t (block k x.closed) ∷ linePieces ρ (i + length e + length c) (marks ρ (x.lines - 1) false ls) ls) (stop-led (i + length e) x.lines f e c ls)
      ∙ ap (λ t. piece t (stopAfter t x.lines (line f [] c ∷ ls)) (block k x.closed) ∷ linePieces ρ (t + length c) (marks ρ (x.lines - 1) false ls) ls) h)))

  module _ (text flags : List ℕ) where
    -- an empty line opens no block
    empty-kind : (f : ℕ) → kindOf ρ (line f [] []) ≡ 0
    unfolding kindOf run
    empty-kind f = nothing-opened ρ f

    -- behind the text there are none
    pub no-more : (i n : ℕ) → length text ≤ i → fromLine ρ text flags i n ≡ []
    unfolding fromLine linesOf cutLines marks linePieces isBlank run flagged
    no-more i n l =
        rw (drop_all i text l, flag-first (drop n flags) [] [] [])
        (simp (empty-kind (get_or (drop n flags) 0 0)))

    -- the pieces behind a line are those from the next line on
    pub behind-line : (e n : ℕ) → lineLength (drop e text) ≡ 0 → piecesBehind e (linesBehind text flags e n) ≡ fromLine ρ text flags (lineFrom text e) n
    unfolding fromLine linePieces marks
    behind-line e n h =
        split (ltb e (length text))
        (λ l.
        let some = ending-there text e h (ltb-true e (length text) l) in
        ap (piecesBehind e) (next-numbered text flags e n (n + 1) (sym (drop-drop 1 n flags)) some)
        ∙ led e (lineFrom text e) (get_or (drop n flags) 0 0) (leadAt text flags e) (contentFrom text (lineFrom text e)) (linesBehind text flags (lineTo text e) (n + 1)) (omega (arith, lead-length text e))
        ∙ ap (piecesBehind (lineFrom text e)) (sym (first-numbered text flags (lineFrom text e) n (n + 1) (sym (drop-drop 1 n flags)))))
        (λ l.
        let o = ltb-false e (length text) l in
        ap (piecesBehind e) (no-lines text flags e n (ending-out text e o)) ∙ sym (no-more (lineFrom text e) n (omega arith)))
