-- Two lists of pieces that correspond place by place: each index of a piece is the same in both and stands at or before the place p where the texts part, or it
-- stands as far behind j₁ in the one as behind j₂ in the other, where they meet again. Where a piece holds all from p to j₁, the bytes outside the pieces are
-- the same: before p and behind j₁ the same indices are withheld, and between them all.
use Rattle.std.proofs.Common.{◌≡◌, refl, sym, ◌∙◌, ap, true, ◌&&◌, List, [], ◌∷◌, ◌++◌, ℕ, suc, ◌+◌, ◌<◌, ◌≤◌, add-zero, add-suc, arith, leb, ltb, length, le-leb, lt-ltb, le-ltb, leb-true, leb-false, ltb-true, ltb-false}
use Rattle.std.proofs.lemmas.Bool.{and_parts}
use Rattle.std.proofs.Math.Bool.{or-true}
use borrow.Author.Tests.{lt-leb}
use Rattle.lexical.proofs.Cases.{split}
use Rattle.rules.specs.Withhold.{Which, Piece, piece, holds, isWithheld, outside}
use Rattle.rules.specs.Private.{any, spans, encloses}

-- an index of the one text, and the same place of the other
pub data At (p j₁ j₂ : ℕ) : ℕ → ℕ → Type 0 where
  early : (i : ℕ) → i ≤ p → At p j₁ j₂ i i
  late : (c : ℕ) → At p j₁ j₂ (j₁ + c) (j₂ + c)

-- the pieces of the one, and those of the other
pub data Corresponding (p j₁ j₂ : ℕ) : List Piece → List Piece → Type 0 where
  done : Corresponding p j₁ j₂ [] []
  next : {a₁ a₂ b₁ b₂ : ℕ} {w : Which} {ps₁ ps₂ : List Piece} → At p j₁ j₂ a₁ a₂ → At p j₁ j₂ b₁ b₂ → Corresponding p j₁ j₂ ps₁ ps₂
      → Corresponding p j₁ j₂ (piece a₁ b₁ w ∷ ps₁) (piece a₂ b₂ w ∷ ps₂)

pub same-count : {p j₁ j₂ : ℕ} {ps₁ ps₂ : List Piece} → Corresponding p j₁ j₂ ps₁ ps₂ → length ps₁ ≡ length ps₂
same-count done = refl
same-count (next a b c) = ap suc (same-count c)

pub both : {p j₁ j₂ : ℕ} {ps₁ ps₂ qs₁ qs₂ : List Piece} → Corresponding p j₁ j₂ ps₁ ps₂ → Corresponding p j₁ j₂ qs₁ qs₂ → Corresponding p j₁ j₂ (ps₁ ++ qs₁) (ps₂ ++ qs₂)
both done d = d
both (next a b c) d = next a b (both c d)

-- indices given by equations
pub early-at : {p j₁ j₂ i k : ℕ} → i ≤ p → i ≡ k → At p j₁ j₂ i k
early-at {i = i} h e = rw (sym e) (early i h)

pub late-at : {p j₁ j₂ i k : ℕ} (c : ℕ) → i ≡ j₁ + c → k ≡ j₂ + c → At p j₁ j₂ i k
late-at c e h = rw (e, h) (late c)

-- ---- what is withheld of the one is withheld of the other
module _ (p j₁ j₂ : ℕ) (h₁ : p < j₁) (h₂ : p < j₂) where
  at-most-moves : {a₁ a₂ i₁ i₂ : ℕ} → At p j₁ j₂ a₁ a₂ → At p j₁ j₂ i₁ i₂ → leb a₁ i₁ ≡ leb a₂ i₂
  at-most-moves (early a l) (early i m) = refl
  at-most-moves (early a l) (late d) = le-leb a (j₁ + d) (omega arith) ∙ sym (le-leb a (j₂ + d) (omega arith))
  at-most-moves (late c) (early i m) = lt-leb (j₁ + c) i (omega arith) ∙ sym (lt-leb (j₂ + c) i (omega arith))
  at-most-moves (late c) (late d) =
      split (leb c d) (λ h. le-leb (j₁ + c) (j₁ + d) (omega (arith, leb-true c d h)) ∙ sym (le-leb (j₂ + c) (j₂ + d) (omega (arith, leb-true c d h))))
      (λ h. lt-leb (j₁ + c) (j₁ + d) (omega (arith, leb-false c d h)) ∙ sym (lt-leb (j₂ + c) (j₂ + d) (omega (arith, leb-false c d h))))

  below-moves : {a₁ a₂ i₁ i₂ : ℕ} → At p j₁ j₂ a₁ a₂ → At p j₁ j₂ i₁ i₂ → ltb a₁ i₁ ≡ ltb a₂ i₂
  below-moves (early a l) (early i m) = refl
  below-moves (early a l) (late d) = lt-ltb a (j₁ + d) (omega arith) ∙ sym (lt-ltb a (j₂ + d) (omega arith))
  below-moves (late c) (early i m) = le-ltb (j₁ + c) i (omega arith) ∙ sym (le-ltb (j₂ + c) i (omega arith))
  below-moves (late c) (late d) =
      split (ltb c d) (λ h. lt-ltb (j₁ + c) (j₁ + d) (omega (arith, ltb-true c d h)) ∙ sym (lt-ltb (j₂ + c) (j₂ + d) (omega (arith, ltb-true c d h))))
      (λ h. le-ltb (j₁ + c) (j₁ + d) (omega (arith, ltb-false c d h)) ∙ sym (le-ltb (j₂ + c) (j₂ + d) (omega (arith, ltb-false c d h))))

  -- a piece holds, or encloses, all between two places of the one where the piece that corresponds does so in the other. So where bulletins differ in several
  -- private pieces, they may be put in one after the other
  pub spans-moves : {ps₁ ps₂ : List Piece} {i₁ i₂ k₁ k₂ : ℕ} → Corresponding p j₁ j₂ ps₁ ps₂ → At p j₁ j₂ i₁ i₂ → At p j₁ j₂ k₁ k₂
      → any (spans i₁ k₁) ps₁ ≡ any (spans i₂ k₂) ps₂
  unfolding any
  spans-moves done i k = refl
  spans-moves (next a b c) i k = rw (at-most-moves a i, at-most-moves k b, spans-moves c i k)

  pub encloses-moves : {ps₁ ps₂ : List Piece} {i₁ i₂ k₁ k₂ : ℕ} → Corresponding p j₁ j₂ ps₁ ps₂ → At p j₁ j₂ i₁ i₂ → At p j₁ j₂ k₁ k₂
      → any (encloses i₁ k₁) ps₁ ≡ any (encloses i₂ k₂) ps₂
  unfolding any
  encloses-moves done i k = refl
  encloses-moves (next a b c) i k = rw (below-moves a i, at-most-moves k b, encloses-moves c i k)

  -- an index is withheld where the same place of the other is
  withheld-moves : {ps₁ ps₂ : List Piece} {i₁ i₂ : ℕ} → Corresponding p j₁ j₂ ps₁ ps₂ → At p j₁ j₂ i₁ i₂ → isWithheld i₁ ps₁ ≡ isWithheld i₂ ps₂
  unfolding isWithheld
  withheld-moves done i = refl
  withheld-moves (next a b c) i = rw (at-most-moves a i, below-moves i b, withheld-moves c i)

-- a piece that spans a stretch withholds each index of it
spanned : (p j i : ℕ) (ps : List Piece) → p ≤ i → i < j → any (spans p j) ps ≡ true → isWithheld i ps ≡ true
unfolding any isWithheld
spanned p j i [] a b h = h
spanned p j i (q ∷ ps) a b h =
    split (leb q.start p && leb j q.stop)
    (λ t.
    let u = leb-true q.start p (and_parts (leb q.start p) (leb j q.stop) t).0 in
    let v = leb-true j q.stop (and_parts (leb q.start p) (leb j q.stop) t).1 in
    rw (le-leb q.start i (omega arith), lt-ltb i q.stop (omega arith)))
    (λ t. rw (spanned p j i ps a b (rw t at h)) (or-true (holds i q)))

-- ---- the bytes outside
outside-held : (p j : ℕ) (ps : List Piece) → any (spans p j) ps ≡ true → (m s : List ℕ) (i : ℕ) → p ≤ i → i + length m ≡ j → outside i ps (m ++ s) ≡ outside j ps s
unfolding outside
outside-held p j ps h [] s i l e = let z : i ≡ j = omega arith in rw z
outside-held p j ps h (x ∷ m) s i l e = rw (spanned p j i ps l (omega arith) h) (outside-held p j ps h m s (suc i) (omega arith) (omega arith))

module _ (p j₁ j₂ : ℕ) (h₁ : p < j₁) (h₂ : p < j₂) {ps₁ ps₂ : List Piece} (c : Corresponding p j₁ j₂ ps₁ ps₂) where
  outside-behind : (s : List ℕ) (d : ℕ) → outside (j₁ + d) ps₁ s ≡ outside (j₂ + d) ps₂ s
  unfolding outside
  outside-behind [] d = refl
  outside-behind (x ∷ s) d = rw (withheld-moves p j₁ j₂ h₁ h₂ c (late d), ← add-suc j₁ d, ← add-suc j₂ d, outside-behind s (suc d))

  outside-before : (u s t : List ℕ) (i : ℕ) → i + length u ≡ p → outside p ps₁ s ≡ outside p ps₂ t → outside i ps₁ (u ++ s) ≡ outside i ps₂ (u ++ t)
  unfolding outside
  outside-before [] s t i e h = let z : i ≡ p = omega arith in rw z h
  outside-before (x ∷ u) s t i e h =
      let a : At p j₁ j₂ i i = early i (omega arith) in rw (withheld-moves p j₁ j₂ h₁ h₂ c a, outside-before u s t (suc i) (omega arith) h)

  -- the piece that holds all that differs does so in both
  holds-both : any (spans p j₁) ps₁ ≡ true → any (spans p j₂) ps₂ ≡ true
  holds-both h =
      let a : At p j₁ j₂ p p = early p (omega arith) in
      let b : At p j₁ j₂ j₁ j₂ = late-at 0 (omega arith) (omega arith) in
      sym (spans-moves p j₁ j₂ h₁ h₂ c a b) ∙ h

-- two texts that differ in a stretch that a piece of the first holds
pub same-outside : (before m₁ m₂ after : List ℕ) {ps₁ ps₂ : List Piece} → 0 < length m₁ → 0 < length m₂
    → Corresponding (length before) (length before + length m₁) (length before + length m₂) ps₁ ps₂ → any (spans (length before) (length before + length m₁)) ps₁ ≡ true
    → outside 0 ps₁ (before ++ (m₁ ++ after)) ≡ outside 0 ps₂ (before ++ (m₂ ++ after))
same-outside before m₁ m₂ after {ps₁} {ps₂} l₁ l₂ c h =
    let p = length before in
    let j₁ = p + length m₁ in
    let j₂ = p + length m₂ in
    let h₁ : p < j₁ = omega arith in
    let h₂ : p < j₂ = omega arith in
    let e : outside (j₁ + 0) ps₁ after ≡ outside (j₂ + 0) ps₂ after = outside-behind p j₁ j₂ h₁ h₂ c after 0 in
    outside-before p j₁ j₂ h₁ h₂ c before (m₁ ++ after) (m₂ ++ after) 0 (omega arith)
    (outside-held p j₁ ps₁ h m₁ after p (omega arith) refl
    ∙ (rw (add-zero, add-zero) at e)
    ∙ sym (outside-held p j₂ ps₂ (holds-both p j₁ j₂ h₁ h₂ c h) m₂ after p (omega arith) refl))
