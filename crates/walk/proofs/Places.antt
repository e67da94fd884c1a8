-- Places between pieces. In front of a line all pieces from it on remain; a line gives its block, or the first piece of its paragraph, or the line behind it.
use Rattle.std.proofs.Common.{◌≡◌, refl, sym, ◌∙◌, ap, subst, true, false, List, [], ◌∷◌, ◌++◌, ℕ, zero, suc, ◌+◌, ◌-◌, ◌<◌, arith, eqb, ltb, length, take, drop, drop-drop, length-take-le, take-take, eqb-true, eq-eqb, ltb-true, ltb-false}
use Rattle.lexical.specs.Text.{byte, first, pick, run}
use Rattle.lexical.specs.Byte.{isLineEndingByte, isSpaceOrTab}
use Rattle.lexical.specs.Name.{all}
use Rattle.lexical.specs.Line.{lineLength, isBlank}
use Rattle.lexical.proofs.Cases.{split, clash}
use Rattle.lexical.proofs.Suffix.{drop-take}
use Rattle.rules.specs.Block.{kindOf}
use Rattle.rules.specs.Withhold.{Piece, Which, piece, inline, inlinePieces}
use Rattle.rules.specs.declared.Rules.{Rules}
use Rattle.rules.proofs.Cut.{lineFrom}
use Rattle.walk.specs.Closer.{Known, allAhead}
use Rattle.walk.specs.Remaining.{isPlain, lineAt, fromLine, oddAfter, fromIndex, EndsAt, Onward, atLine, remaining, Valid, isBlock, Leads, Same}
use Rattle.walk.specs.declared.paragraph.End.{End}
use Rattle.walk.specs.declared.paragraph.Inlined.{Inlined}
use Rattle.walk.specs.declared.pieces.Cursor.{Cursor}
use Rattle.walk.specs.declared.pieces.Next.{Next}
use Rattle.walk.proofs.Ahead.{known-all}
use Rattle.walk.proofs.FromLine.{ending-there, line-ended}
use Rattle.walk.proofs.Paragraphs.{noOpen, plain-closed, plain-length, plain-line, blank-content}
use Rattle.walk.proofs.InlineSteps.{skipped-untried}

first-take : (n : ℕ) (s : List ℕ) → 0 < n → first (take n s) ≡ first s
first-take zero s l = absurd (omega arith)
first-take (suc n) [] l = refl
first-take (suc n) (x ∷ s) l = refl

-- ---- the first `<` of a line
open-some : (s : List ℕ) → first (drop (run isPlain s) s) ≡ byte "<" → run isPlain s < lineLength s
unfolding run
open-some [] h = let z : true ≡ false = ap (λ n. eqb n 256) h in clash true refl z
open-some (x ∷ s) h =
    split (eqb x (byte "<")) (λ a. rw (eqb-true x (byte "<") a) (omega arith))
    (λ a. split (isLineEndingByte x)
    (λ e. let k : x ≡ byte "<" = simp (a, e) at h in clash (eqb x (byte "<")) (eq-eqb x (byte "<") k) a)
    (λ e. let k = simp (a, e) at h in let l = open-some s k in simp (a, e) (omega arith)))

open-text : (s : List ℕ) → first (drop (run isPlain s) s) ≡ byte "<" → isBlank s ≡ false
unfolding run isBlank
open-text [] h = let z : true ≡ false = ap (λ n. eqb n 256) h in clash true refl z
open-text (x ∷ s) h =
    split (eqb x (byte "<")) (λ a. rw (eqb-true x (byte "<") a) refl)
    (λ a. split (isLineEndingByte x)
    (λ e. let k : x ≡ byte "<" = simp (a, e) at h in clash (eqb x (byte "<")) (eq-eqb x (byte "<") k) a)
    (λ e. let k = simp (a, e) at h in split (isSpaceOrTab x) (λ b. simp b (open-text s k)) (λ b. simp (b, e))))

line-later : (text : List ℕ) (i : ℕ) → i < length text → i < lineFrom text (i + lineLength (drop i text))
line-later text i l =
    split (ltb i (i + lineLength (drop i text))) (λ h. omega (arith, ltb-true i (i + lineLength (drop i text)) h))
    (λ h.
    let z : i + lineLength (drop i text) ≡ i = omega (arith, ltb-false i (i + lineLength (drop i text)) h) in
    let e = ending-there text (i + lineLength (drop i text)) (line-ended text i) (omega (arith, z)) in
    omega (arith, e))

-- ---- in front of a line
module _ (ρ : Rules) (text flags : List ℕ) where
  pub line-remaining : (i n : ℕ) → remaining ρ text flags (atLine i n) ≡ fromLine ρ text flags i n
  unfolding remaining inlinePieces
  line-remaining i n = refl

  pub line-valid : (i n : ℕ) → Valid text (atLine i n)
  line-valid i n = record { known = known-all allAhead refl (drop 0 (take 0 text)) }

  -- ---- a block
  module _ (i n stop : ℕ) (w : Which) (e : End) (next : ℕ) (d : Cursor) (a : next ≡ lineFrom text e.stop) (b : d ≡ atLine next e.line) where
    pub leads-block : fromLine ρ text flags i n ≡ piece i stop w ∷ fromLine ρ text flags (lineFrom text e.stop) e.line
        → isBlock w ≡ true → Leads ρ text flags (fromLine ρ text flags i n) (record { piece = record { start = i; stop = stop; block = true }; behind = d })
    leads-block h is =
        record {
          takes = record {
            which = w;
            is-block = is;
            is = h ∙ ap (λ t. piece i stop w ∷ fromLine ρ text flags t e.line) (sym a) ∙ ap (λ ps. piece i stop w ∷ ps) (sym (ap (remaining ρ text flags) b ∙ line-remaining next e.line));
          };
          valid = subst (Valid text) (sym b) (line-valid next e.line);
        }

  -- ---- a line that opens no block
  module _ (c : Cursor) (l : c.next < length text) (none : kindOf ρ (lineAt text flags c.next c.line) ≡ 0)
      (o : ℕ) (is : o ≡ c.next + run isPlain (drop c.next text)) where
    -- without `<`
    pub plain-same : (first (drop o text) ≡ byte "<" → ⊥) → (next m : ℕ) (d : Cursor) → next ≡ lineFrom text o → drop m flags ≡ drop 1 (drop c.line flags) → d ≡ atLine next m
        → Same ρ text flags c d
    plain-same h next m d a r b =
        let s = drop c.next text in
        let plain : run isPlain s ≡ lineLength s = plain-length s (λ f. h (ap (λ t. first (drop t text)) is ∙ ap first (sym (drop-drop (run isPlain s) c.next text)) ∙ f)) in
        let at : o ≡ c.next + lineLength s = omega (arith, is, plain) in
        let later : c.next < next = omega (arith, line-later text c.next l, a ∙ ap (lineFrom text) at) in
        subst (Same ρ text flags c) (sym b)
        (record {
          is = plain-line ρ text flags c.next c.line m r none o is h ∙ ap (λ t. fromLine ρ text flags t m) (sym a);
          later = later;
        })

    -- with `<`
    module _ (h : first (drop o text) ≡ byte "<") (e : End) (end : EndsAt ρ text flags c.next c.line e) (front : List ℕ) (f : front ≡ take (e.stop - 0) (drop 0 text)) where
      abbrev s : List ℕ
      s = drop c.next text

      opens : first (drop (run isPlain s) s) ≡ byte "<"
      opens = ap first (drop-drop (run isPlain s) c.next text) ∙ ap (λ t. first (drop t text)) (sym is) ∙ h

      front-is : front ≡ take e.stop text
      front-is = let z : e.stop - 0 ≡ e.stop = omega arith in f ∙ ap (λ n. take n text) z

      front-length : length front ≡ e.stop
      front-length = ap length front-is ∙ length-take-le e.stop text end.to

      open-within : o < length front
      open-within = omega (arith, front-length, is, open-some s opens, end.from)

      module _ (from : ℕ) (skips : from ≡ o + pick (oddAfter false (take (o - c.next) (drop c.next text))) 1 0) where
        from-open : fromIndex ρ front c.next ≡ fromIndex ρ front from
        from-open =
            let q : o - c.next ≡ run isPlain s = omega (arith, is) in
            let part : take (o - c.next) (drop c.next front) ≡ take (o - c.next) s =
            ap (λ t. take (o - c.next) (drop c.next t)) front-is
            ∙ ap (take (o - c.next)) (drop-take c.next e.stop text)
            ∙ take-take (o - c.next) (e.stop - c.next) s (omega (arith, open-within, front-length)) in
            let there : first (drop o front) ≡ byte "<" = ap (λ t. first (drop o t)) front-is ∙ ap first (drop-take o e.stop text) ∙ first-take (e.stop - o) (drop o text) (omega (arith, open-within, front-length)) ∙ h in
            skipped-untried ρ front c.next o (ap (all noOpen) (part ∙ ap (λ n. take n s) q) ∙ plain-closed s) (omega (arith, is)) open-within there
            ∙ ap (λ u. fromIndex ρ front (o + pick (oddAfter false u) 1 0)) part
            ∙ ap (fromIndex ρ front) (sym skips)

        pieces-from : fromLine ρ text flags c.next c.line ≡ fromIndex ρ front from ++ fromLine ρ text flags (lineFrom text e.stop) e.line
        pieces-from =
            end.pieces none (blank-content s ∙ open-text s opens)
            ∙ ap (λ t. fromIndex ρ t c.next ++ fromLine ρ text flags (lineFrom text e.stop) e.line) (sym front-is)
            ∙ ap (λ ps. ps ++ fromLine ρ text flags (lineFrom text e.stop) e.line) from-open

        module _ (next : ℕ) (a : next ≡ lineFrom text e.stop) where
          pub leads-inline : (p : Inlined) → Onward ρ front from p
              → Leads ρ text flags (fromLine ρ text flags c.next c.line) (record { piece = p.piece; behind = record { index = p.piece.stop; stop = e.stop; next = next; line = e.line; closers = p.closers } })
          unfolding remaining
          leads-inline p on =
              record {
                takes = record {
                  which = inline;
                  is-block = sym on.no-block;
                  is =
                      pieces-from
                      ∙ ap (λ ps. ps ++ fromLine ρ text flags (lineFrom text e.stop) e.line) on.is
                      ∙ ap (λ t. piece p.piece.start p.piece.stop inline ∷ (fromIndex ρ t p.piece.stop ++ fromLine ρ text flags (lineFrom text e.stop) e.line)) front-is
                      ∙ ap (λ t. piece p.piece.start p.piece.stop inline ∷ (fromIndex ρ (take e.stop text) p.piece.stop ++ fromLine ρ text flags t e.line)) (sym a);
                };
                valid = record { known = subst (λ t. Known p.closers (drop p.piece.stop t)) front-is on.known };
              }

          pub paragraph-same : (d : Cursor) → d ≡ atLine next e.line → fromIndex ρ front from ≡ [] → Same ρ text flags c d
          paragraph-same d b none-there =
              subst (Same ρ text flags c) (sym b)
              (record {
                is = pieces-from ∙ ap (λ ps. ps ++ fromLine ρ text flags (lineFrom text e.stop) e.line) none-there ∙ ap (λ t. fromLine ρ text flags t e.line) (sym a);
                later = omega (arith, a, open-within, front-length, is);
              })

-- the same pieces by another name
pub leads-as : {ρ : Rules} {text flags : List ℕ} {ps qs : List Piece} {n : Next} → ps ≡ qs → Leads ρ text flags qs n → Leads ρ text flags ps n
leads-as e l = record { takes = record { which = l.takes.which; is-block = l.takes.is-block; is = e ∙ l.takes.is }; valid = l.valid }

-- ---- a place in a paragraph, or behind it
module _ (ρ : Rules) (text flags : List ℕ) (c : Cursor) (valid : Valid text c) (front : List ℕ) (f : front ≡ take (c.stop - 0) (drop 0 text)) where
  inner-is : front ≡ take c.stop text
  inner-is = let z : c.stop - 0 ≡ c.stop = omega arith in f ∙ ap (λ n. take n text) z

  pub inner-known : Known c.closers (drop c.index front)
  inner-known = subst (λ t. Known c.closers (drop c.index t)) (sym inner-is) valid.known

  remaining-is : remaining ρ text flags c ≡ fromIndex ρ front c.index ++ fromLine ρ text flags c.next c.line
  unfolding remaining
  remaining-is = ap (λ t. fromIndex ρ t c.index ++ fromLine ρ text flags c.next c.line) (sym inner-is)

  pub leads-onward : (p : Inlined) → Onward ρ front c.index p
      → Leads ρ text flags (remaining ρ text flags c) (record { piece = p.piece; behind = record { index = p.piece.stop; stop = c.stop; next = c.next; line = c.line; closers = p.closers } })
  unfolding remaining
  leads-onward p on =
      record {
        takes = record {
          which = inline;
          is-block = sym on.no-block;
          is =
              remaining-is
              ∙ ap (λ ps. ps ++ fromLine ρ text flags c.next c.line) on.is
              ∙ ap (λ t. piece p.piece.start p.piece.stop inline ∷ (fromIndex ρ t p.piece.stop ++ fromLine ρ text flags c.next c.line)) inner-is;
        };
        valid = record { known = subst (λ t. Known p.closers (drop p.piece.stop t)) inner-is on.known };
      }

  pub paragraph-over : fromIndex ρ front c.index ≡ [] → remaining ρ text flags c ≡ fromLine ρ text flags c.next c.line
  paragraph-over h = remaining-is ∙ ap (λ ps. ps ++ fromLine ρ text flags c.next c.line) h
