-- Two bulletins that differ in a private body: every line has the same mark in both, with the same extent of its block, and the pieces correspond. A piece that
-- begins before the body is a block, whose stop is the end of a line, or is inline and corresponds within its paragraph; all behind it is moved.
use Rattle.std.proofs.Common.{◌≡◌, refl, sym, ◌∙◌, ap, Bool, true, false, List, [], ◌∷◌, ◌++◌, append_assoc, ℕ, zero, suc, ◌+◌, ◌-◌, ◌≤◌, arith, length, length-append}
use Rattle.lexical.specs.Text.{byte}
use Rattle.lexical.specs.Line.{isBlank}
use Rattle.lexical.specs.Name.{all}
use Rattle.rules.specs.Lines.{Line, line, linesOf}
use Rattle.rules.specs.Block.{kindOf, closes, extentOf, inLast, stopAfter, goesOn as reaches}
use Rattle.rules.specs.Withhold.{Mark, blockFirst, blockMore, blank, paragraphFirst, paragraphMore, marks, goesOn, inlinePieces, linePieces, pieces, shown, count}
use Rattle.rules.specs.Private.{isPrivate, Form, around, any, spans, InlineSwap, WithheldBody, SameRuns}
use Rattle.rules.specs.declared.Rules.{Rules}
use Rattle.runs.proofs.Corresponding.{At, early, Corresponding, done, next, both, late-at, same-count, same-outside}
use Rattle.runs.proofs.Alike.{Pair, ahead, blank-same}
use Rattle.runs.proofs.Body.{inside, around-inside}
use Rattle.runs.proofs.Steady.{kind-same, closes-same}
use Rattle.runs.proofs.Paragraph.{pieces-prior, pieces-ahead}
use Rattle.rules.proofs.LineLaws.{sizes}
use Rattle.runs.proofs.BodyLine.{body-line, around-some}
use Rattle.runs.proofs.Behind.{stop-from, lines-behind}

inside-more : (f : Form) (b z r : List ℕ) → inside f b z ++ r ≡ inside f b (z ++ r)
inside-more f b z r = simp append_assoc

inside-length : (f : Form) (b q : List ℕ) → length (byte "<" ∷ inside f b q) ≡ length (around f b) + length q
inside-length f b q = ap length (sym (around-inside f b q)) ∙ length-append (around f b) q

module _ (ρ : Rules) (f : Form) (b₁ b₂ : List ℕ) (h₁ : all isPrivate b₁ ≡ true) (h₂ : all isPrivate b₂ ≡ true) (flag : ℕ) (lead a z : List ℕ) (later : List Line) where
  abbrev line₁ : Line
  line₁ = line flag lead (a ++ (byte "<" ∷ inside f b₁ z))

  abbrev line₂ : Line
  line₂ = line flag lead (a ++ (byte "<" ∷ inside f b₂ z))

  abbrev one : List Line → List Line
  one e = e ++ (line₁ ∷ later)

  abbrev two : List Line → List Line
  two e = e ++ (line₂ ∷ later)

  -- ---- marks
  blank-line : isBlank line₁.content ≡ isBlank line₂.content
  blank-line = let r : Pair (inside f b₁ z) (inside f b₂ z) z line₁.content line₂.content = ahead a in blank-same r

  kind-line : kindOf ρ line₁ ≡ kindOf ρ line₂
  kind-line = kind-same ρ f b₁ b₂ z h₁ h₂ flag lead a

  closes-line : (k : ℕ) → closes ρ k line₁.content ≡ closes ρ k line₂.content
  closes-line k = closes-same ρ f b₁ b₂ z h₁ h₂ k a

  reach-same : (e : List Line) (k : ℕ) → reaches ρ k (one e) ≡ reaches ρ k (two e)
  unfolding reaches
  reach-same [] k = rw (blank-line, closes-line k)
  reach-same (l ∷ e) k = rw (reach-same e k)

  extent-same : (e : List Line) (k : ℕ) (l : Line) → extentOf ρ k l (one e) ≡ extentOf ρ k l (two e)
  unfolding extentOf
  extent-same e k l = rw (reach-same e k)

  extent-line : (k : ℕ) → extentOf ρ k line₁ later ≡ extentOf ρ k line₂ later
  unfolding extentOf
  extent-line k = rw (closes-line k)

  marks-same : (e : List Line) (n : ℕ) (par : Bool) → marks ρ n par (one e) ≡ marks ρ n par (two e)
  unfolding marks
  marks-same [] (suc n) par = refl
  marks-same [] zero par = rw (kind-line, blank-line, extent-line (kindOf ρ line₂))
  marks-same (l ∷ e) (suc n) par = rw (marks-same e n false)
  marks-same (l ∷ e) zero par =
      rw (marks-same e zero false, marks-same e zero true, extent-same e (kindOf ρ l) l, marks-same e ((extentOf ρ (kindOf ρ l) l (two e)).lines - 1) false)

  -- ---- pieces; the body stands at p
  module _ (p : ℕ) where
    abbrev d₁ : ℕ
    d₁ = length (around f b₁)

    abbrev d₂ : ℕ
    d₂ = length (around f b₂)

    abbrev Same : ℕ → ℕ → Type 0
    Same i k = At p (p + d₁) (p + d₂) i k

    content-length : (b : List ℕ) → length (a ++ (byte "<" ∷ inside f b z)) ≡ length a + (length (around f b) + length z)
    content-length b = length-append a (byte "<" ∷ inside f b z) ∙ ap (λ (n : ℕ). length a + n) (inside-length f b z)

    -- the stop of a block
    stop-here : (n i : ℕ) → i + length a ≡ p → Same (stopAfter i n (line₁ ∷ later)) (stopAfter i n (line₂ ∷ later))
    unfolding inLast
    stop-here zero i e = early i (omega arith)
    stop-here (suc zero) i e = late-at (length z) (omega (arith, content-length b₁)) (omega (arith, content-length b₂))
    stop-here (suc (suc n)) i e = by-later later
      where
        by-later : (ls : List Line) → Same (stopAfter i (suc (suc n)) (line₁ ∷ ls)) (stopAfter i (suc (suc n)) (line₂ ∷ ls))
        by-later [] = late-at (length z) (omega (arith, content-length b₁)) (omega (arith, content-length b₂))
        by-later (m ∷ ls) =
            let c₁ = content-length b₁ in
            let c₂ = content-length b₂ in
            let s₁ = stop-from (suc n) (m ∷ ls) (i + length line₁.content + length m.lead) in
            let s₂ = stop-from (suc n) (m ∷ ls) (i + length line₂.content + length m.lead) in
            late-at (length z + length m.lead + stopAfter 0 (suc n) (m ∷ ls)) (omega arith) (omega arith)

    stop-earlier : (n : ℕ) (e : List Line) (l : Line) (i : ℕ) → i + length l.content + sizes e + length lead + length a ≡ p
        → Same (stopAfter i n (l ∷ one e)) (stopAfter i n (l ∷ two e))
    unfolding inLast
    stop-earlier zero e l i h = early i (omega arith)
    stop-earlier (suc zero) e l i h = early (i + length l.content) (omega arith)
    stop-earlier (suc (suc n)) [] l i h = stop-here (suc n) (i + length l.content + length lead) (omega arith)
    stop-earlier (suc (suc n)) (m ∷ e) l i h = stop-earlier (suc n) e m (i + length l.content + length m.lead) (omega arith)

    -- a paragraph's text from the index i on: it ends before the body, or the body is in it
    data Text (i : ℕ) : List ℕ → List ℕ → Type 0 where
      prior : (s : List ℕ) → i + length s ≤ p → Text i s s
      here : (u q : List ℕ) → i + length u ≡ p → Text i (u ++ (byte "<" ∷ inside f b₁ q)) (u ++ (byte "<" ∷ inside f b₂ q))

    text-after : (x : List ℕ) (i : ℕ) {s t : List ℕ} → Text (i + length x) s t → Text i (x ++ s) (x ++ t)
    text-after x i (prior s l) = prior (x ++ s) (omega (arith, length-append x s))
    text-after x i (here u q e) =
        rw (sym (append_assoc x u (byte "<" ∷ inside f b₁ q)), sym (append_assoc x u (byte "<" ∷ inside f b₂ q))) (here (x ++ u) q (omega (arith, length-append x u)))

    text-here : (i : ℕ) (r : List ℕ) → i + length a ≡ p → Text i (line₁.content ++ r) (line₂.content ++ r)
    text-here i r e =
        let k : (b : List ℕ) → (a ++ (byte "<" ∷ inside f b z)) ++ r ≡ a ++ (byte "<" ∷ inside f b (z ++ r)) =
        λ b. append_assoc a (byte "<" ∷ inside f b z) r ∙ ap (λ (l : List ℕ). a ++ (byte "<" ∷ l)) (inside-more f b z r) in
        rw (k b₁, k b₂) (here a (z ++ r) e)

    text-on : (ms : List Mark) (e : List Line) (i : ℕ) → i + sizes e + length lead + length a ≡ p → Text i (goesOn ms (one e)) (goesOn ms (two e))
    unfolding goesOn
    text-on [] e i h = prior [] (omega arith)
    text-on (blockFirst k x ∷ ms) e i h = prior [] (omega arith)
    text-on (blockMore ∷ ms) e i h = prior [] (omega arith)
    text-on (blank ∷ ms) e i h = prior [] (omega arith)
    text-on (paragraphFirst ∷ ms) e i h = prior [] (omega arith)
    text-on (paragraphMore ∷ ms) [] i h = text-after lead i (text-here (i + length lead) (goesOn ms later) (omega arith))
    text-on (paragraphMore ∷ ms) (l ∷ e) i h =
        text-after l.lead i (text-after l.content (i + length l.lead) (text-on ms e (i + length l.lead + length l.content) (omega arith)))

    text-pieces : (i : ℕ) {s t : List ℕ} → Text i s t → Corresponding p (p + d₁) (p + d₂) (inlinePieces ρ (length s) i false s) (inlinePieces ρ (length t) i false t)
    text-pieces i (prior s l) = pieces-prior ρ p (p + d₁) (p + d₂) (length s) false s i l
    text-pieces i (here u q e) =
        pieces-ahead ρ f b₁ b₂ q h₁ h₂ p d₁ d₂ (around-some f b₁) (around-some f b₂) (inside-length f b₁ q) (inside-length f b₂ q) _ _ i false u e (omega arith) (omega arith)

    -- behind the line
    after-line : (ms : List Mark) (i : ℕ) → i + length lead + length a ≡ p
        → Corresponding p (p + d₁) (p + d₂) (linePieces ρ (i + length lead + length line₁.content) ms later) (linePieces ρ (i + length lead + length line₂.content) ms later)
    after-line ms i e =
        lines-behind ρ p (p + d₁) (p + d₂) ms later (i + length lead + length line₁.content) (i + length lead + length line₂.content) (length z) (omega (arith, content-length b₁)) (omega (arith, content-length b₂))

    lines-same : (ms : List Mark) (e : List Line) (i : ℕ) → i + sizes e + length lead + length a ≡ p
        → Corresponding p (p + d₁) (p + d₂) (linePieces ρ i ms (one e)) (linePieces ρ i ms (two e))
    unfolding linePieces
    lines-same [] e i h = done
    lines-same (blockFirst k x ∷ ms) [] i h = next (early (i + length lead) (omega arith)) (stop-here x.lines (i + length lead) (omega arith)) (after-line ms i (omega arith))
    lines-same (blockMore ∷ ms) [] i h = after-line ms i (omega arith)
    lines-same (blank ∷ ms) [] i h = after-line ms i (omega arith)
    lines-same (paragraphFirst ∷ ms) [] i h = both (text-pieces (i + length lead) (text-here (i + length lead) (goesOn ms later) (omega arith))) (after-line ms i (omega arith))
    lines-same (paragraphMore ∷ ms) [] i h = after-line ms i (omega arith)
    lines-same (blockFirst k x ∷ ms) (l ∷ e) i h =
        next (early (i + length l.lead) (omega arith)) (stop-earlier x.lines e l (i + length l.lead) (omega arith)) (lines-same ms e (i + length l.lead + length l.content) (omega arith))
    lines-same (blockMore ∷ ms) (l ∷ e) i h = lines-same ms e (i + length l.lead + length l.content) (omega arith)
    lines-same (blank ∷ ms) (l ∷ e) i h = lines-same ms e (i + length l.lead + length l.content) (omega arith)
    lines-same (paragraphFirst ∷ ms) (l ∷ e) i h =
        both (text-pieces (i + length l.lead) (text-after l.content (i + length l.lead) (text-on ms e (i + length l.lead + length l.content) (omega arith))))
        (lines-same ms e (i + length l.lead + length l.content) (omega arith))
    lines-same (paragraphMore ∷ ms) (l ∷ e) i h = lines-same ms e (i + length l.lead + length l.content) (omega arith)

-- ---- the theorems
-- the marks of the two bulletins are the same
pub body-marks : (ρ : Rules) (flags : List ℕ) {one two : List ℕ} (d : InlineSwap one two) → marks ρ 0 false (linesOf flags one) ≡ marks ρ 0 false (linesOf flags two)
body-marks ρ flags d =
    let w = body-line flags d in
    rw (w.one-is, w.two-is) (marks-same ρ d.form d.body₁ d.body₂ d.private₁ d.private₂ w.flag w.lead w.before w.after w.later w.earlier 0 false)

-- the pieces of the two bulletins correspond
pub body-pieces : (ρ : Rules) (flags : List ℕ) {one two : List ℕ} (d : InlineSwap one two)
    → Corresponding (length d.before) (length d.before + length (around d.form d.body₁)) (length d.before + length (around d.form d.body₂)) (pieces ρ one flags) (pieces ρ two flags)
unfolding pieces
body-pieces ρ flags d =
    let w = body-line flags d in
    let m = body-marks ρ flags d in
    let p = length d.before in
    rw (sym m)
    (rw (w.one-is, w.two-is)
    (lines-same ρ d.form d.body₁ d.body₂ d.private₁ d.private₂ w.flag w.lead w.before w.after w.later p _ w.earlier 0 (omega (arith, w.position))))

pub body-runs : (ρ : Rules) (flags : List ℕ) {one two : List ℕ} (d : InlineSwap one two) → WithheldBody ρ flags d → SameRuns ρ flags one two
unfolding shown count
body-runs ρ flags {one} {two} d h =
    let c = body-pieces ρ flags d in
    let m₁ = around d.form d.body₁ in
    let m₂ = around d.form d.body₂ in
    let held : any (spans (length d.before) (length d.before + length m₁)) (pieces ρ one flags) ≡ true = rw (length-append d.before m₁) at h in
    let s = same-outside d.before m₁ m₂ d.after (around-some d.form d.body₁) (around-some d.form d.body₂) c held in
    let b : shown ρ one flags ≡ shown ρ two flags = rw (sym d.one-is, sym d.two-is) at s in
    record { same-bytes = b; same-length = ap length b; same-count = same-count c }
