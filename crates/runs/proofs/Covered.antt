-- Blocks and private lines. A block of kinds 1 to 5 goes over private lines alike in two bulletins: none of them closes it, and whether one is lazy does not
-- depend on its bytes. A block that ends before them is the same in both. Where a block's stop lies behind them, all of them are its further lines.
use Rattle.std.proofs.Common.{◌≡◌, refl, ap, Bool, false, List, [], ◌∷◌, ◌++◌, ℕ, zero, suc, ◌+◌, ◌-◌, ◌<◌, ◌≤◌, arith, length}
use borrow.Author.Tests.{lt-leb}
use Rattle.lexical.proofs.Cases.{split}
use Rattle.rules.specs.Lines.{Line, line}
use Rattle.rules.specs.Block.{oneMore, closes, endsBefore, goesOn, extentOf, inLast, stopAfter}
use Rattle.rules.specs.Withhold.{Mark, blockMore, marks, linePieces}
use Rattle.rules.specs.declared.Rules.{Rules}
use Rattle.runs.proofs.Corresponding.{Corresponding}
use Rattle.runs.proofs.Steady.{quiet}
use Rattle.rules.proofs.LineLaws.{sizes}
use Rattle.runs.proofs.Behind.{lines-behind}
use Rattle.runs.proofs.PrivateLines.{Privates, no-more, one-more}

pub same-number : {a b : List Line} → Privates a b → length a ≡ length b
same-number no-more = refl
same-number (one-more f e c₁ c₂ h k r) = ap suc (same-number r)

-- ---- extents
-- an extent has a first line
pub extent-some : (ρ : Rules) (k : ℕ) (l : Line) (ls : List Line) → (extentOf ρ k l ls).lines ≡ suc ((extentOf ρ k l ls).lines - 1)
unfolding extentOf
extent-some ρ k l ls = split (closes ρ k l.content) (λ h. rw h) (λ h. rw h (omega arith))

module _ (ρ : Rules) (k : ℕ) where
  -- over private lines, for kinds 1 to 5
  module _ (low : k ≤ 5) (back : List Line) where
    reach-private : (a b : List Line) → Privates a b → goesOn ρ k (a ++ back) ≡ goesOn ρ k (b ++ back)
    unfolding goesOn
    reach-private a b no-more = refl
    reach-private a b (one-more f e c₁ c₂ {one = x} {two = y} h j r) =
        rw (lt-leb 6 k (omega arith), quiet ρ k c₁ h, quiet ρ k c₂ j, reach-private x y r)

    reach-over : (e a b : List Line) → Privates a b → goesOn ρ k (e ++ (a ++ back)) ≡ goesOn ρ k (e ++ (b ++ back))
    unfolding goesOn
    reach-over [] a b r = reach-private a b r
    reach-over (l ∷ e) a b r = rw (reach-over e a b r)

    pub extent-over : (l : Line) (e a b : List Line) → Privates a b → extentOf ρ k l (e ++ (a ++ back)) ≡ extentOf ρ k l (e ++ (b ++ back))
    unfolding extentOf
    extent-over l e a b r = rw (reach-over e a b r)

  -- what ends within e does not depend on what follows
  reach-within : (e s t : List Line) → (goesOn ρ k (e ++ s)).lines < length e → goesOn ρ k (e ++ s) ≡ goesOn ρ k (e ++ t)
  unfolding goesOn
  reach-within [] s t h = absurd (omega arith)
  reach-within (l ∷ e) s t h =
      split (endsBefore k l) (λ a. rw a)
      (λ a. split (closes ρ k l.content) (λ c. rw (a, c)) (λ c. let w = rw (a, c) at h in rw (a, c) (ap oneMore (reach-within e s t (omega arith)))))

  pub extent-within : (l : Line) (e s t : List Line) → (extentOf ρ k l (e ++ s)).lines - 1 < length e → extentOf ρ k l (e ++ s) ≡ extentOf ρ k l (e ++ t)
  unfolding extentOf
  extent-within l e s t h =
      split (closes ρ k l.content) (λ c. rw c) (λ c. let w = rw c at h in rw c (ap oneMore (reach-within e s t (omega arith))))

-- ---- stops
-- a line of no bytes
abbrev pub empty : Line
empty = line 0 [] []

stop-empty : (m i : ℕ) (l : Line) (ls : List Line) → stopAfter i (suc m) (l ∷ ls) ≡ stopAfter (i + length l.content) (suc m) (empty ∷ ls)
unfolding inLast
stop-empty zero i l ls = omega arith
stop-empty (suc m) i l [] = omega arith
stop-empty (suc m) i l (x ∷ ls) = let e : i + length l.content + 0 ≡ i + length l.content = omega arith in rw e

-- the stop of a block that goes over the lines x
pub stop-through : (x back : List Line) (m i : ℕ) (l : Line) → length x ≤ m → stopAfter i (suc m) (l ∷ (x ++ back)) ≡ stopAfter (i + length l.content + sizes x) (suc (m - length x)) (empty ∷ back)
unfolding inLast
stop-through [] back m i l h =
    let a : i + length l.content + 0 ≡ i + length l.content = omega arith in
    let b : m - 0 ≡ m = omega arith in
    rw (a, b) (stop-empty m i l back)
stop-through (y ∷ x) back zero i l h = absurd (omega arith)
stop-through (y ∷ x) back (suc m) i l h =
    let k = i + length l.content + length y.lead in
    let a : i + length l.content + sizes (y ∷ x) ≡ k + length y.content + sizes x = omega arith in
    let b : suc m - suc (length x) ≡ m - length x = omega arith in
    rw (a, b) (stop-through x back m k y (omega arith))

-- the stop of a block that ends within the lines x
pub stop-bound : (x back : List Line) (m i : ℕ) (l : Line) → m < length x → stopAfter i (suc m) (l ∷ (x ++ back)) ≤ i + length l.content + sizes x
unfolding inLast
stop-bound [] back m i l h = absurd (omega arith)
stop-bound (y ∷ x) back zero i l h = omega arith
stop-bound (y ∷ []) back (suc m) i l h = absurd (omega arith)
stop-bound (y ∷ z ∷ x) back (suc m) i l h =
    let w = stop-bound (z ∷ x) back m (i + length l.content + length y.lead) y (omega arith) in omega arith

pub stop-within : (x s t : List Line) (m i : ℕ) (l : Line) → m < length x → stopAfter i (suc m) (l ∷ (x ++ s)) ≡ stopAfter i (suc m) (l ∷ (x ++ t))
unfolding inLast
stop-within [] s t m i l h = absurd (omega arith)
stop-within (y ∷ x) s t zero i l h = refl
stop-within (y ∷ []) s t (suc m) i l h = absurd (omega arith)
stop-within (y ∷ z ∷ x) s t (suc m) i l h = stop-within (z ∷ x) s t m (i + length l.content + length y.lead) y (omega arith)

-- ---- further lines of one block
module _ (ρ : Rules) (back : List Line) where
  private-marks : (a b : List Line) (n : ℕ) (par : Bool) → length a ≤ n → Privates a b → marks ρ n par (a ++ back) ≡ marks ρ n par (b ++ back)
  unfolding marks
  private-marks a b n par h no-more = refl
  private-marks a b zero par h (one-more f e c₁ c₂ p q r) = absurd (omega arith)
  private-marks a b (suc n) par h (one-more f e c₁ c₂ {one = x} {two = y} p q r) = ap (λ (ms : List Mark). blockMore ∷ ms) (private-marks x y n false (omega arith) r)

  pub covered-marks : (e a b : List Line) (n : ℕ) (par : Bool) → length e + length a ≤ n → Privates a b → marks ρ n par (e ++ (a ++ back)) ≡ marks ρ n par (e ++ (b ++ back))
  unfolding marks
  covered-marks [] a b n par h r = private-marks a b n par (omega arith) r
  covered-marks (l ∷ e) a b zero par h r = absurd (omega arith)
  covered-marks (l ∷ e) a b (suc n) par h r = ap (λ (ms : List Mark). blockMore ∷ ms) (covered-marks e a b n false (omega arith) r)

  module _ (p j₁ j₂ : ℕ) where
    private-pieces : (a b : List Line) (n : ℕ) (par : Bool) (i₁ i₂ : ℕ) → length a ≤ n → i₁ + sizes a ≡ j₁ → i₂ + sizes b ≡ j₂ → Privates a b
        → Corresponding p j₁ j₂ (linePieces ρ i₁ (marks ρ n par (a ++ back)) (a ++ back)) (linePieces ρ i₂ (marks ρ n par (a ++ back)) (b ++ back))
    unfolding marks linePieces
    private-pieces a b n par i₁ i₂ h e₁ e₂ no-more = lines-behind ρ p j₁ j₂ (marks ρ n par back) back i₁ i₂ 0 (omega arith) (omega arith)
    private-pieces a b zero par i₁ i₂ h e₁ e₂ (one-more f e c₁ c₂ s t r) = absurd (omega arith)
    private-pieces a b (suc n) par i₁ i₂ h e₁ e₂ (one-more f e c₁ c₂ {one = x} {two = y} s t r) =
        private-pieces x y n false (i₁ + length e + length c₁) (i₂ + length e + length c₂) (omega arith) (omega arith) (omega arith) r

    pub covered-pieces : (e a b : List Line) (n : ℕ) (par : Bool) (i : ℕ) → length e + length a ≤ n → i + sizes e + sizes a ≡ j₁ → i + sizes e + sizes b ≡ j₂ → Privates a b
        → Corresponding p j₁ j₂ (linePieces ρ i (marks ρ n par (e ++ (a ++ back))) (e ++ (a ++ back))) (linePieces ρ i (marks ρ n par (e ++ (a ++ back))) (e ++ (b ++ back)))
    unfolding marks linePieces
    covered-pieces [] a b n par i h e₁ e₂ r = private-pieces a b n par i i (omega arith) (omega arith) (omega arith) r
    covered-pieces (l ∷ e) a b zero par i h e₁ e₂ r = absurd (omega arith)
    covered-pieces (l ∷ e) a b (suc n) par i h e₁ e₂ r =
        covered-pieces e a b n false (i + length l.lead + length l.content) (omega arith) (omega arith) (omega arith) r
