-- A list of spans from its front: the first three numbers, and what is left behind them.
use Rattle.std.proofs.Common.{◌≡◌, refl, subst, Bool, true, false, ◌&&◌, List, [], ◌∷◌, ℕ, zero, suc, ◌-◌, ◌<◌, arith, eqb, leb, ltb, length}
use Rattle.rules.specs.Spans.{areSpans, part, partOf}
use Rattle.runs.proofs.Spans.{Spans, no-more, span}

-- ---- whether they are spans
module _ (from end : ℕ) where
  pub short : (s : List ℕ) → length s < 3 → areSpans from end s ≡ eqb (length s) 0
  unfolding areSpans
  short [] h = refl
  short (a ∷ []) h = refl
  short (a ∷ b ∷ []) h = refl
  short (a ∷ b ∷ k ∷ s) h = absurd (omega (arith, h))

  module _ {list : List ℕ} (a b k : ℕ) (rest : List ℕ) (first : list ≡ a ∷ (b ∷ (k ∷ rest))) where
    abbrev isGood : Bool
    isGood = (leb from a && ltb a b) && (leb b end && leb k 1)

    pub span-on : isGood ≡ true → areSpans b end rest ≡ areSpans from end list
    unfolding areSpans
    span-on g = rw first (both (leb from a && ltb a b) (leb b end && leb k 1) (areSpans b end rest) g)
      where
        both : (x y z : Bool) → (x && y) ≡ true → z ≡ (x && (y && z))
        both true true z e = refl
        both true false z e = cc
        both false y z e = cc

    pub span-wrong : isGood ≡ false → areSpans from end list ≡ false
    unfolding areSpans
    span-wrong g = rw first (none (leb from a && ltb a b) (leb b end && leb k 1) (areSpans b end rest) g)
      where
        none : (x y z : Bool) → (x && y) ≡ false → (x && (y && z)) ≡ false
        none true true z e = cc
        none true false z e = refl
        none false y z e = refl

-- ---- spans that are not refused
pub behind : {from end a b k : ℕ} {list rest : List ℕ} → list ≡ a ∷ (b ∷ (k ∷ rest)) → Spans from end list → Spans b end rest
behind {from} {end} first w = by-first (subst (Spans from end) first w)
  where
    by-first : {a b k : ℕ} {rest : List ℕ} → Spans from end (a ∷ (b ∷ (k ∷ rest))) → Spans b end rest
    by-first (span a b k x y z w) = w

pub no-span : {from end : ℕ} {list : List ℕ} → length list < 3 → Spans from end list → list ≡ []
no-span l (no-more h) = refl
no-span l (span a b k x y z w) = absurd (omega (arith, l))

-- ---- the stretch that is so many spans ahead
module _ (from end : ℕ) {list : List ℕ} where
  pub part-here : (a b k : ℕ) {rest : List ℕ} (n : ℕ) → list ≡ a ∷ (b ∷ (k ∷ rest)) → n ≡ 0 → part from (a - from) ≡ partOf n from end list
  unfolding partOf
  part-here a b k n first z = rw (first, z) refl

  pub part-on : (a b k : ℕ) {rest : List ℕ} (n : ℕ) → list ≡ a ∷ (b ∷ (k ∷ rest)) → (n ≡ 0 → ⊥) → partOf (n - 1) b end rest ≡ partOf n from end list
  unfolding partOf
  part-on a b k zero first z = absurd (z refl)
  part-on a b k {rest} (suc n) first z = let e : suc n - 1 ≡ n = omega arith in rw (first, e) refl

  pub part-last : (n : ℕ) → list ≡ [] → n ≡ 0 → part from (end - from) ≡ partOf n from end list
  unfolding partOf
  part-last n over z = rw (over, z) refl

  pub part-none : (n : ℕ) → list ≡ [] → (n ≡ 0 → ⊥) → part 0 0 ≡ partOf n from end list
  unfolding partOf
  part-none zero over z = absurd (z refl)
  part-none (suc n) over z = rw over refl
