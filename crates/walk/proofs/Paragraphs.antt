-- Paragraphs line by line. A line without `<` has no pieces, and nor has the ending behind it: so the next line may as well begin a paragraph. A paragraph that
-- is begun goes on over lines that are neither blank nor open a block, and its text is all from its first byte to the end of its last line's content.
use Rattle.std.proofs.Common.{◌≡◌, refl, sym, ◌∙◌, ap, subst, Bool, true, false, ◌||◌, not, List, [], ◌∷◌, ◌++◌, append_assoc, append-nil, ℕ, suc, ◌+◌, ◌-◌, ◌<◌, ◌≤◌, arith, eqb, ltb, length, get_or, take, drop, drop-drop, eqb-true, ltb-true, ltb-false}
use Rattle.std.proofs.lemmas.List.{drop-drop}
use Rattle.std.proofs.lemmas.Bool.{and_parts, or_parts}
use borrow.Author.Tests.{not-true, not-false}
use Rattle.lexical.specs.Text.{byte, first, run}
use Rattle.lexical.specs.Byte.{isLineEndingByte, isSpaceOrTab}
use Rattle.lexical.specs.Name.{all}
use Rattle.lexical.specs.Line.{lineEnding, lineLength, isBlank}
use Rattle.lexical.proofs.Cases.{split, clash}
use Rattle.lexical.proofs.Suffix.{drop-take, parts}
use Rattle.lexical.proofs.Ending.{ending-out}
use Rattle.rules.specs.Lines.{Line}
use Rattle.rules.specs.Block.{kindOf}
use Rattle.rules.specs.Withhold.{Piece, marks, goesOn, oddBehind, inlinePieces, linePieces}
use Rattle.rules.specs.declared.Rules.{Rules}
use Rattle.rules.proofs.Cut.{content-length, lineFrom, lineTo, to-within, blank-apart}
use Rattle.rules.proofs.LineLaws.{contentFrom, leadAt}
use Rattle.runs.proofs.Paragraph.{past-other}
use Rattle.walk.specs.Remaining.{isPlain, lineAt, endsParagraph, fromLine, oddAfter, fromIndex, EndsAt}
use Rattle.walk.proofs.FromLine.{ending-there, line-ended, line-within, linesBehind, ledLine, led-to, first-numbered, next-numbered, no-lines, read-to, piecesBehind, same-kind, no-more, behind-line}

-- ---- bytes without `<`
abbrev pub noOpen : ℕ → Bool
noOpen b = not (eqb b (byte "<"))

lead-closed : (s : List ℕ) → all noOpen (take (lineEnding s) s) ≡ true
unfolding lineEnding all
lead-closed [] = refl
lead-closed (x ∷ []) = split (eqb x (byte "\n")) (λ h. rw (eqb-true x (byte "\n") h)) (λ h. split (eqb x (byte "\r")) (λ r. rw (eqb-true x (byte "\r") r)) (λ r. simp (h, r)))
lead-closed (x ∷ y ∷ s) =
    split (eqb x (byte "\n")) (λ h. rw (eqb-true x (byte "\n") h))
    (λ h. split (eqb x (byte "\r"))
    (λ r. rw (eqb-true x (byte "\r") r) (split (eqb y (byte "\n")) (λ k. rw (eqb-true y (byte "\n") k)) (λ k. simp k)))
    (λ r. simp (h, r)))

pub plain-closed : (s : List ℕ) → all noOpen (take (run isPlain s) s) ≡ true
unfolding run all
plain-closed [] = refl
plain-closed (x ∷ s) =
    split (eqb x (byte "<")) (λ h. simp h)
    (λ h. split (isLineEndingByte x) (λ e. simp (h, e)) (λ e. simp (h, e) (plain-closed s)))

-- a line whose first `<` or ending is no `<`
pub plain-length : (s : List ℕ) → (first (drop (run isPlain s) s) ≡ byte "<" → ⊥) → run isPlain s ≡ lineLength s
unfolding run
plain-length [] h = refl
plain-length (x ∷ s) h =
    split (eqb x (byte "<")) (λ a. let k = simp a at h in absurd (k (eqb-true x (byte "<") a)))
    (λ a. split (isLineEndingByte x) (λ e. simp (a, e)) (λ e. let k = simp (a, e) at h in simp (a, e) (ap suc (plain-length s k))))

-- ---- runs of backslashes
-- a line ending breaks a run
lead-breaks : (s : List ℕ) → 0 < lineEnding s → (odd : Bool) → oddAfter odd (take (lineEnding s) s) ≡ false
unfolding lineEnding oddAfter
lead-breaks [] l odd = absurd (omega arith)
lead-breaks (x ∷ []) l odd =
    split (eqb x (byte "\n")) (λ h. rw (eqb-true x (byte "\n") h))
    (λ h. split (eqb x (byte "\r")) (λ r. rw (eqb-true x (byte "\r") r)) (λ r. let z = simp (h, r) at l in absurd (omega (arith, z))))
lead-breaks (x ∷ y ∷ s) l odd =
    split (eqb x (byte "\n")) (λ h. rw (eqb-true x (byte "\n") h))
    (λ h. split (eqb x (byte "\r"))
    (λ r. rw (eqb-true x (byte "\r") r) (split (eqb y (byte "\n")) (λ k. rw (eqb-true y (byte "\n") k)) (λ k. simp k)))
    (λ r. let z = simp (h, r) at l in absurd (omega (arith, z))))

module _ (ρ : Rules) where
  -- bytes without `<` have no pieces
  pub skip : (i : ℕ) (odd : Bool) (u t : List ℕ) → all noOpen u ≡ true → inlinePieces ρ (length (u ++ t)) i odd (u ++ t) ≡ inlinePieces ρ (length t) (i + length u) (oddAfter odd u) t
  unfolding all oddAfter
  skip i odd [] t h = let z : i + 0 ≡ i = omega arith in rw z refl
  skip i odd (x ∷ u) t h =
      let e : eqb x (byte "<") ≡ false = not-true (eqb x (byte "<")) (and_parts (noOpen x) (all noOpen u) h).0 in
      let z : suc i + length u ≡ i + suc (length u) = omega arith in
      past-other ρ (length (u ++ t)) i odd x (u ++ t) e
      ∙ skip (suc i) (oddBehind odd x) u t (and_parts (noOpen x) (all noOpen u) h).1
      ∙ ap (λ n. inlinePieces ρ (length t) n (oddAfter (oddBehind odd x) u) t) z

  -- ---- a line and the lines behind it
  module _ (e : ℕ) (l : Line) (ls : List Line) where
    abbrev text-on : List ℕ
    text-on = l.content ++ goesOn (marks ρ 0 true ls) ls

    abbrev end : ℕ
    end = e + length l.lead + length l.content

    blank-line : kindOf ρ l ≡ 0 → isBlank l.content ≡ true → piecesBehind ρ e (l ∷ ls) ≡ piecesBehind ρ end ls
    unfolding marks linePieces
    blank-line a b = rw (a, b) refl

    text-line : kindOf ρ l ≡ 0 → isBlank l.content ≡ false
        → piecesBehind ρ e (l ∷ ls) ≡ inlinePieces ρ (length text-on) (e + length l.lead) false text-on ++ linePieces ρ end (marks ρ 0 true ls) ls
    unfolding marks linePieces
    text-line a b = rw (a, b) refl

    -- in a paragraph: it goes on with the line, or ends before it
    on-text : kindOf ρ l ≡ 0 → isBlank l.content ≡ false → goesOn (marks ρ 0 true (l ∷ ls)) (l ∷ ls) ≡ l.lead ++ text-on
    unfolding marks goesOn
    on-text a b = rw (a, b) refl

    on-pieces : kindOf ρ l ≡ 0 → isBlank l.content ≡ false → linePieces ρ e (marks ρ 0 true (l ∷ ls)) (l ∷ ls) ≡ linePieces ρ end (marks ρ 0 true ls) ls
    unfolding marks linePieces
    on-pieces a b = rw (a, b) refl

    end-marks : endsParagraph ρ l ≡ true → marks ρ 0 true (l ∷ ls) ≡ marks ρ 0 false (l ∷ ls)
    unfolding marks
    end-marks h =
        split (eqb (kindOf ρ l) 0)
        (λ a. split (isBlank l.content) (λ b. simp (a, b)) (λ b. let z : false ≡ true = simp (a, b) at h in clash true refl (sym z)))
        (λ a. simp a)

    end-text : endsParagraph ρ l ≡ true → goesOn (marks ρ 0 true (l ∷ ls)) (l ∷ ls) ≡ []
    unfolding marks goesOn
    end-text h =
        split (eqb (kindOf ρ l) 0)
        (λ a. split (isBlank l.content) (λ b. simp (a, b)) (λ b. let z : false ≡ true = simp (a, b) at h in clash true refl (sym z)))
        (λ a. simp a)

    -- a paragraph that goes on with the line may as well begin with it

    pub begin : (odd : Bool) → all noOpen l.lead ≡ true → oddAfter odd l.lead ≡ false
        → inlinePieces ρ (length (goesOn (marks ρ 0 true (l ∷ ls)) (l ∷ ls))) e odd (goesOn (marks ρ 0 true (l ∷ ls)) (l ∷ ls)) ++ linePieces ρ e (marks ρ 0 true (l ∷ ls)) (l ∷ ls)
        ≡ piecesBehind ρ e (l ∷ ls)
    unfolding marks goesOn linePieces inlinePieces
    begin odd h b0 =
        split (eqb (kindOf ρ l) 0)
        (λ a. split (isBlank l.content) (λ b. simp (a, b))
        (λ b. simp (a, b) (ap (λ ps. ps ++ linePieces ρ (e + length l.lead + length l.content) (marks ρ 0 true ls) ls) (skip e odd l.lead text-on h ∙ ap (λ o. inlinePieces ρ (length text-on) (e + length l.lead) o text-on) b0))))
        (λ a. simp a)

-- ---- a line is none of a paragraph
pub blank-content : (s : List ℕ) → isBlank (take (lineLength s) s) ≡ isBlank s
unfolding isBlank run
blank-content [] = refl
blank-content (x ∷ s) =
    split (isLineEndingByte x)
    (λ e. split (isSpaceOrTab x) (λ b. clash (isLineEndingByte x) e (blank-apart x b)) (λ b. simp (e, b)))
    (λ e. split (isSpaceOrTab x) (λ b. simp (e, b) (blank-content s)) (λ b. simp (e, b)))

pub ends-by : (ρ : Rules) (text flags : List ℕ) (i n : ℕ) (b f : Bool) → isBlank (drop i text) ≡ b → not (eqb (kindOf ρ (lineAt text flags i n)) 0) ≡ f
    → endsParagraph ρ (lineAt text flags i n) ≡ (b || f)
ends-by ρ text flags i n b f h k = ap (λ t. t || not (eqb (kindOf ρ (lineAt text flags i n)) 0)) (blank-content (drop i text) ∙ h) ∙ ap (λ t. b || t) k

module _ (ρ : Rules) (text flags : List ℕ) where
  abbrev L : ℕ → ℕ → List Line
  L e n = linesBehind text flags e n

  -- ---- behind a line of a paragraph whose content ends at e: what the paragraph goes on with, and the pieces of the lines there
  abbrev pub onward : ℕ → ℕ → List ℕ
  onward e n = goesOn (marks ρ 0 true (L e n)) (L e n)

  abbrev pub others : ℕ → ℕ → List Piece
  others e n = linePieces ρ e (marks ρ 0 true (L e n)) (L e n)

  abbrev both : Bool → ℕ → List Line → List Piece
  both odd e ls = inlinePieces ρ (length (goesOn (marks ρ 0 true ls) ls)) e odd (goesOn (marks ρ 0 true ls) ls) ++ linePieces ρ e (marks ρ 0 true ls) ls

  over : (e n : ℕ) → length text ≤ e → L e n ≡ []
  over e n l = no-lines text flags e n (ending-out text e l)

  next : (e n m : ℕ) → drop m flags ≡ drop 1 (drop n flags) → lineLength (drop e text) ≡ 0 → e < length text → L e n ≡ ledLine text flags e n ∷ L (lineTo text e) m
  next e n m r h l = next-numbered text flags e n m r (ending-there text e h l)

  restart : (odd : Bool) (e n : ℕ) → lineLength (drop e text) ≡ 0 → both odd e (L e n) ≡ fromLine ρ text flags (lineFrom text e) n
  unfolding marks goesOn linePieces inlinePieces
  restart odd e n h =
      split (ltb e (length text))
      (λ l.
      let k = next e n (n + 1) (sym (drop-drop 1 n flags)) h (ltb-true e (length text) l) in
      ap (both odd e) k
      ∙ begin ρ e (ledLine text flags e n) (L (lineTo text e) (n + 1)) odd (lead-closed (drop e text)) (lead-breaks (drop e text) (ending-there text e h (ltb-true e (length text) l)) odd)
      ∙ ap (piecesBehind ρ e) (sym k)
      ∙ behind-line ρ text flags e n h)
      (λ l.
      let o = ltb-false e (length text) l in
      ap (both odd e) (over e n o) ∙ sym (no-more ρ text flags (lineFrom text e) n (omega arith)))

  -- ---- the first line
  module _ (i n m : ℕ) (r : drop m flags ≡ drop 1 (drop n flags)) (none : kindOf ρ (lineAt text flags i n) ≡ 0) where
    abbrev E : ℕ
    E = i + lineLength (drop i text)

    abbrev c : List ℕ
    c = contentFrom text i

    content-end : i + 0 + length c ≡ E
    content-end = omega (arith, content-length (drop i text))

    blank-first : isBlank c ≡ true → fromLine ρ text flags i n ≡ fromLine ρ text flags (lineFrom text E) m
    unfolding fromLine
    blank-first b =
        ap (piecesBehind ρ i) (first-numbered text flags i n m r)
        ∙ blank-line ρ i (lineAt text flags i n) (L E m) none b
        ∙ ap (λ t. piecesBehind ρ t (L E m)) content-end
        ∙ behind-line ρ text flags E m (line-ended text i)

    pub text-first : isBlank c ≡ false → fromLine ρ text flags i n ≡ inlinePieces ρ (length (c ++ onward E m)) i false (c ++ onward E m) ++ others E m
    unfolding fromLine
    text-first b =
        let z : i + 0 ≡ i = omega arith in
        let P = c ++ onward E m in
        ap (piecesBehind ρ i) (first-numbered text flags i n m r)
        ∙ text-line ρ i (lineAt text flags i n) (L E m) none b
        ∙ ap (λ t. inlinePieces ρ (length P) t false P ++ linePieces ρ (i + 0 + length c) (marks ρ 0 true (L E m)) (L E m)) z
        ∙ ap (λ t. inlinePieces ρ (length P) i false P ++ linePieces ρ t (marks ρ 0 true (L E m)) (L E m)) content-end

    -- a line without `<` has no pieces
    pub plain-line : (at : ℕ) → at ≡ i + run isPlain (drop i text) → (first (drop at text) ≡ byte "<" → ⊥)
        → fromLine ρ text flags i n ≡ fromLine ρ text flags (lineFrom text at) m
    plain-line at o h =
        let s = drop i text in
        let plain : run isPlain s ≡ lineLength s = plain-length s (λ f. h (ap (λ t. first (drop t text)) o ∙ ap first (sym (drop-drop (run isPlain s) i text)) ∙ f)) in
        let closed : all noOpen c ≡ true = ap (λ t. all noOpen (take t (drop i text))) (sym plain) ∙ plain-closed (drop i text) in
        let ends : E ≡ at = omega (arith, o, plain) in
        let e : i + length c ≡ E = omega (arith, content-length (drop i text)) in
        split (isBlank c) (λ b. blank-first b)
        (λ b.
        text-first b
        ∙ ap (λ ps. ps ++ others E m) (skip ρ i false c (onward E m) closed)
        ∙ ap (λ t. inlinePieces ρ (length (onward E m)) t (oddAfter false c) (onward E m) ++ others E m) e
        ∙ restart (oddAfter false c) E m (line-ended text i))
        ∙ ap (λ t. fromLine ρ text flags (lineFrom text t) m) ends

  -- ---- the lines of a paragraph
  pub record Along (E n stop m : ℕ) : Type 0 where
    pub from : E ≤ stop
    pub to : stop ≤ length text
    pub ended : lineLength (drop stop text) ≡ 0
    pub text-is : onward E n ≡ take (stop - E) (drop E text) ++ onward stop m
    pub others-are : others E n ≡ others stop m

  along-start : (E n : ℕ) → E ≤ length text → lineLength (drop E text) ≡ 0 → Along E n E n
  along-start E n l h = let z : E - E ≡ 0 = omega arith in record { from = omega arith; to = l; ended = h; text-is = rw z refl; others-are = refl }

  pub along-first : (i n stop : ℕ) → i ≤ length text → stop ≡ i + lineLength (drop i text) → Along (i + lineLength (drop i text)) n stop n
  along-first i n stop l e = subst (λ t. Along (i + lineLength (drop i text)) n t n) (sym e) (along-start (i + lineLength (drop i text)) n (line-within text i l) (line-ended text i))

  module _ (E n stop m : ℕ) (along : Along E n stop m) where
    module _ (q : ℕ) (r : drop q flags ≡ drop 1 (drop m flags)) (l : stop < length text) where
      abbrev following : Line
      following = ledLine text flags stop m

      abbrev from : ℕ
      from = lineFrom text stop

      abbrev to : ℕ
      to = lineTo text stop

      follows : L stop m ≡ following ∷ L to q
      follows = next stop m q r along.ended l

      same : endsParagraph ρ following ≡ endsParagraph ρ (lineAt text flags from m)
      same = ap (λ k. isBlank (contentFrom text from) || not (eqb k 0)) (same-kind ρ (get_or (drop m flags) 0 0) (leadAt text flags stop) (contentFrom text from))

      longer : (X : List ℕ) → take (stop - E) (drop E text) ++ (leadAt text flags stop ++ (contentFrom text from ++ X)) ≡ take (to - E) (drop E text) ++ X
      longer X =
          let a : from - stop ≡ lineEnding (drop stop text) = omega arith in
          let b : to - from ≡ lineLength (drop from text) = omega arith in
          let A = take (stop - E) (drop E text) in
          let joined : leadAt text flags stop ++ contentFrom text from ≡ take (to - stop) (drop stop text) =
          ap (λ t. take t (drop stop text) ++ contentFrom text from) (sym a) ∙ ap (λ t. take (from - stop) (drop stop text) ++ take t (drop from text)) (sym b) ∙ parts stop from to text (omega arith) (omega arith) in
          ap (λ t. A ++ t) (sym (append_assoc (leadAt text flags stop) (contentFrom text from) X))
          ∙ ap (λ t. A ++ (t ++ X)) joined
          ∙ sym (append_assoc A (take (to - stop) (drop stop text)) X)
          ∙ ap (λ t. t ++ X) (parts E stop to text along.from (omega arith))

      -- one line more
      along-on : endsParagraph ρ (lineAt text flags from m) ≡ false → Along E n to q
      along-on h =
          let g = same ∙ h in
          let b = (or_parts (isBlank (contentFrom text from)) (not (eqb (kindOf ρ following) 0)) g).0 in
          let z : kindOf ρ following ≡ 0 = eqb-true (kindOf ρ following) 0 (not-false (eqb (kindOf ρ following) 0) (or_parts (isBlank (contentFrom text from)) (not (eqb (kindOf ρ following) 0)) g).1) in
          record {
            from = omega (arith, along.from);
            to = to-within text stop along.to;
            ended = line-ended text from;
            text-is = along.text-is ∙ ap (λ t. take (stop - E) (drop E text) ++ t) (ap (λ ls. goesOn (marks ρ 0 true ls) ls) follows ∙ on-text ρ stop following (L to q) z b) ∙ longer (onward to q);
            others-are = along.others-are ∙ ap (λ ls. linePieces ρ stop (marks ρ 0 true ls) ls) follows ∙ on-pieces ρ stop following (L to q) z b ∙ ap (λ t. linePieces ρ t (marks ρ 0 true (L to q)) (L to q)) (led-to text flags stop m);
          }

      no-text : endsParagraph ρ (lineAt text flags from m) ≡ true → onward stop m ≡ []
      no-text h = ap (λ ls. goesOn (marks ρ 0 true ls) ls) follows ∙ end-text ρ stop following (L to q) (same ∙ h)

      no-more-lines : endsParagraph ρ (lineAt text flags from m) ≡ true → others stop m ≡ fromLine ρ text flags from m
      no-more-lines h =
          ap (λ ls. linePieces ρ stop (marks ρ 0 true ls) ls) follows
          ∙ ap (λ ms. linePieces ρ stop ms (following ∷ L to q)) (end-marks ρ stop following (L to q) (same ∙ h))
          ∙ ap (piecesBehind ρ stop) (sym follows)
          ∙ behind-line ρ text flags stop m along.ended

    -- the next line as the code reads it
    pub along-next : (from to : ℕ) → from ≡ lineFrom text stop → to ≡ from + lineLength (drop from text) → stop < length text → (q : ℕ) → drop q flags ≡ drop 1 (drop m flags)
        → endsParagraph ρ (lineAt text flags from m) ≡ false → Along E n to q
    along-next from to a b l q r h =
        subst (λ t. Along E n t q) (sym (read-to text stop from to a b)) (along-on q r l (ap (λ t. endsParagraph ρ (lineAt text flags t m)) (sym a) ∙ h))

  -- ---- the whole paragraph, whose first line stands at i
  module _ (i k n stop m : ℕ) (r : drop n flags ≡ drop 1 (drop k flags)) (along : Along (i + lineLength (drop i text)) n stop m) where
    abbrev first-end : ℕ
    first-end = i + lineLength (drop i text)

    whole-text : onward stop m ≡ [] → contentFrom text i ++ onward first-end n ≡ drop i (take stop text)
    whole-text e =
        let a : first-end - i ≡ lineLength (drop i text) = omega arith in
        let rest = take (stop - first-end) (drop first-end text) in
        ap (λ t. contentFrom text i ++ t) (along.text-is ∙ ap (λ t. rest ++ t) e ∙ append-nil rest)
        ∙ ap (λ t. take t (drop i text) ++ rest) (sym a)
        ∙ parts i first-end stop text (omega arith) along.from
        ∙ sym (drop-take i stop text)

    whole : kindOf ρ (lineAt text flags i k) ≡ 0 → isBlank (contentFrom text i) ≡ false → onward stop m ≡ [] → others stop m ≡ fromLine ρ text flags (lineFrom text stop) m
        → fromLine ρ text flags i k ≡ fromIndex ρ (take stop text) i ++ fromLine ρ text flags (lineFrom text stop) m
    whole none b e o =
        text-first i k n r none b
        ∙ ap (λ t. inlinePieces ρ (length t) i false t ++ others first-end n) (whole-text e)
        ∙ ap (λ ps. fromIndex ρ (take stop text) i ++ ps) (along.others-are ∙ o)

    -- it ends before a line that is none of it, or with the text
    pub ends-before : (next : ℕ) → next ≡ lineFrom text stop → stop < length text → endsParagraph ρ (lineAt text flags next m) ≡ true
        → EndsAt ρ text flags i k (record { stop = stop; line = m })
    ends-before next a l h =
        let r = sym (drop-drop 1 m flags) in
        let g = ap (λ t. endsParagraph ρ (lineAt text flags t m)) (sym a) ∙ h in
        record {
          from = along.from;
          to = along.to;
          pieces = λ none b. whole none b (no-text first-end n stop m along (m + 1) r l g) (no-more-lines first-end n stop m along (m + 1) r l g);
        }

    pub ends-with : length text ≤ stop → EndsAt ρ text flags i k (record { stop = stop; line = m })
    unfolding marks goesOn linePieces
    ends-with l =
        record {
          from = along.from;
          to = along.to;
          pieces = λ none b. whole none b (ap (λ ls. goesOn (marks ρ 0 true ls) ls) (over stop m l)) (ap (λ ls. linePieces ρ stop (marks ρ 0 true ls) ls) (over stop m l) ∙ sym (no-more ρ text flags (lineFrom text stop) m (omega arith)));
        }
