-- Privacy. Two bulletins that differ in a private piece which run one withholds have the same marks, and pieces that correspond; the piece that holds the
-- private one holds it in both, so that the same bytes are shown, and there are as many pieces.
use Rattle.std.proofs.Common.{◌≡◌, refl, sym, ◌∙◌, ap, Bool, true, false, ◌&&◌, List, [], ◌∷◌, ◌++◌, append_assoc, ℕ, suc, ◌+◌, ◌-◌, ◌<◌, ◌≤◌, arith, leb, ltb, length, length-append, le-leb, leb-true, leb-false, ltb-true, ltb-false}
use Rattle.std.proofs.lemmas.Bool.{and_parts}
use Rattle.std.proofs.Math.Bool.{or-true}
use Rattle.lexical.specs.Text.{byte}
use Rattle.lexical.proofs.Cases.{split}
use Rattle.rules.specs.Lines.{linesOf}
use Rattle.rules.specs.Withhold.{Piece, marks, linePieces, pieces, shown, count, outside}
use Rattle.rules.specs.Private.{any, spans, linesText, LinesSwap, isClosed, encloses, WithheldLines, SameRuns, TwoRuns, in-line, in-block}
use Rattle.rules.specs.declared.Rules.{Rules}
use Rattle.runs.proofs.Corresponding.{At, early, Corresponding, done, next, late-at, same-count, same-outside}
use Rattle.runs.proofs.BodyRuns.{body-runs}
use Rattle.rules.proofs.LineLaws.{sizes}
use Rattle.runs.proofs.PrivateLines.{ledText, led-is, LineStretch, line-stretch}
use Rattle.runs.proofs.LineRuns.{found}

-- ---- no private lines: the two bulletins are one
pub no-lines : (cs : List (List ℕ)) → length cs ≤ 0 → cs ≡ []
no-lines [] h = refl
no-lines (c ∷ cs) h = absurd (omega arith)

at-same : (p i : ℕ) → At p (p + 0) (p + 0) i i
at-same p i =
    split (leb i p) (λ h. early i (leb-true i p h))
    (λ h. late-at (i - p) (omega (arith, leb-false i p h)) (omega (arith, leb-false i p h)))

same-pieces : (p : ℕ) (ps : List Piece) → Corresponding p (p + 0) (p + 0) ps ps
same-pieces p [] = done
same-pieces p (q ∷ ps) = next (at-same p q.start) (at-same p q.stop) (same-pieces p ps)

pub led-some : (cs : List (List ℕ)) → 0 < length cs → 0 < length (ledText cs)
led-some [] h = absurd (omega arith)
led-some (c ∷ cs) h = omega arith

any-more : (f g : Piece → Bool) → ((q : Piece) → f q ≡ true → g q ≡ true) → (ps : List Piece) → any f ps ≡ true → any g ps ≡ true
unfolding any
any-more f g on [] h = h
any-more f g on (q ∷ ps) h =
    split (f q) (λ t. rw (on q t)) (λ t. rw (any-more f g on ps (rw t at h)) (or-true (g q)))

module _ (ρ : Rules) (flags : List ℕ) {one two : List ℕ} (d : LinesSwap one two) where
  abbrev p : ℕ
  p = length d.before

  abbrev j₁ : ℕ
  j₁ = p + length (ledText d.lines₁)

  abbrev j₂ : ℕ
  j₂ = p + length (ledText d.lines₂)

  none : length d.lines₁ ≤ 0 → (d.lines₁ ≡ []) × (d.lines₂ ≡ [])
  none h = (no-lines d.lines₁ h, no-lines d.lines₂ (omega (arith, d.same-number)))

  none-same : length d.lines₁ ≤ 0 → one ≡ two
  none-same h =
      d.one-is
      ∙ ap (λ (cs : List (List ℕ)). (d.before ++ (byte "\n" ∷ [])) ++ (linesText cs ++ d.after)) ((none h).0 ∙ sym (none h).1)
      ∙ sym d.two-is

  -- where the private lines begin and end, in the words of the premise
  begin-is : length (d.before ++ (byte "\n" ∷ [])) ≡ suc p
  begin-is = omega (arith, length-append d.before (byte "\n" ∷ []))

  end-is : length ((d.before ++ (byte "\n" ∷ [])) ++ linesText d.lines₁) ≡ suc j₁
  end-is =
      omega
      (arith, length-append (d.before ++ (byte "\n" ∷ [])) (linesText d.lines₁), begin-is, ap length (led-is d.lines₁), length-append (ledText d.lines₁) (byte "\n" ∷ []))

  module _ (h : WithheldLines ρ flags d) where
    enclosed : any (encloses (suc p) (suc j₁)) (pieces ρ one flags) ≡ true
    enclosed = rw (begin-is, end-is) at h

    module _ (w : LineStretch flags d) where
      enclosed-lines : any (encloses (suc p) (suc j₁)) (linePieces ρ 0 (marks ρ 0 false (w.front ++ (w.stretch₁ ++ w.back))) (w.front ++ (w.stretch₁ ++ w.back))) ≡ true
      unfolding pieces
      enclosed-lines = rw w.one-is at enclosed

      marks-stretch : marks ρ 0 false (linesOf flags one) ≡ marks ρ 0 false (linesOf flags two)
      marks-stretch =
          let f = found ρ w.stretch₁ w.stretch₂ w.back w.both p j₁ j₂ (sizes w.front) w.starts w.led w.ends₁ w.ends₂ w.front 0 false 0 (omega arith) enclosed-lines in
          rw (w.one-is, w.two-is) f.same-marks

      pieces-stretch : Corresponding p j₁ j₂ (pieces ρ one flags) (pieces ρ two flags)
      unfolding pieces
      pieces-stretch =
          let f = found ρ w.stretch₁ w.stretch₂ w.back w.both p j₁ j₂ (sizes w.front) w.starts w.led w.ends₁ w.ends₂ w.front 0 false 0 (omega arith) enclosed-lines in
          rw (sym marks-stretch) (rw (w.one-is, w.two-is) f.same-pieces)

    -- the marks of the two bulletins are the same
    pub line-marks : marks ρ 0 false (linesOf flags one) ≡ marks ρ 0 false (linesOf flags two)
    line-marks =
        split (ltb 0 (length d.lines₁)) (λ t. marks-stretch (line-stretch flags d (ltb-true 0 (length d.lines₁) t)))
        (λ t. ap (λ (text : List ℕ). marks ρ 0 false (linesOf flags text)) (none-same (ltb-false 0 (length d.lines₁) t)))

    -- the pieces of the two bulletins correspond
    pub line-pieces : Corresponding p j₁ j₂ (pieces ρ one flags) (pieces ρ two flags)
    line-pieces =
        split (ltb 0 (length d.lines₁)) (λ t. pieces-stretch (line-stretch flags d (ltb-true 0 (length d.lines₁) t)))
        (λ t.
        let l = ltb-false 0 (length d.lines₁) t in
        rw ((none l).0, (none l).1, sym (none-same l)) (same-pieces p (pieces ρ one flags)))

    -- ---- a piece holds all that differs
    holds-lines : any (spans p j₁) (pieces ρ one flags) ≡ true
    holds-lines = any-more (encloses (suc p) (suc j₁)) (spans p j₁) within (pieces ρ one flags) enclosed
      where
        within : (q : Piece) → encloses (suc p) (suc j₁) q ≡ true → spans p j₁ q ≡ true
        within q e =
            let k = (and_parts (isClosed q.which) (ltb q.start (suc p) && leb (suc j₁) q.stop) e).1 in
            let a = ltb-true q.start (suc p) (and_parts (ltb q.start (suc p)) (leb (suc j₁) q.stop) k).0 in
            let b = leb-true (suc j₁) q.stop (and_parts (ltb q.start (suc p)) (leb (suc j₁) q.stop) k).1 in
            rw (le-leb q.start p (omega arith), le-leb j₁ q.stop (omega arith))

    led-text : (cs : List (List ℕ)) → (d.before ++ (byte "\n" ∷ [])) ++ (linesText cs ++ d.after) ≡ d.before ++ (ledText cs ++ (byte "\n" ∷ d.after))
    led-text cs =
        append_assoc d.before (byte "\n" ∷ []) (linesText cs ++ d.after)
        ∙ ap (λ (l : List ℕ). d.before ++ (l ++ d.after)) (led-is cs)
        ∙ ap (λ (l : List ℕ). d.before ++ l) (append_assoc (ledText cs) (byte "\n" ∷ []) d.after)

    line-shown : shown ρ one flags ≡ shown ρ two flags
    unfolding shown
    line-shown =
        split (ltb 0 (length d.lines₁))
        (λ t.
        let some = ltb-true 0 (length d.lines₁) t in
        let s = same-outside d.before (ledText d.lines₁) (ledText d.lines₂) (byte "\n" ∷ d.after) (led-some d.lines₁ some) (led-some d.lines₂ (omega (arith, d.same-number))) line-pieces holds-lines in
        ap (outside 0 (pieces ρ one flags)) (d.one-is ∙ led-text d.lines₁) ∙ s ∙ sym (ap (outside 0 (pieces ρ two flags)) (d.two-is ∙ led-text d.lines₂)))
        (λ t. ap (λ (text : List ℕ). outside 0 (pieces ρ text flags) text) (none-same (ltb-false 0 (length d.lines₁) t)))

    pub line-runs : SameRuns ρ flags one two
    unfolding count
    line-runs = record { same-bytes = line-shown; same-length = ap length line-shown; same-count = same-count line-pieces }

-- for every reading, with any of the eight changes made
pub two-runs : (ρ : Rules) → TwoRuns ρ
two-runs ρ flags one two r₁ r₂ (in-line d h) = body-runs ρ flags d h
two-runs ρ flags one two r₁ r₂ (in-block d h) = line-runs ρ flags d h
