-- The inline pieces of two paragraphs that are alike but for a private body correspond. A reading before the opening ends before it in both, or behind the body
-- in both, or finds nothing; at the opening both take the body; and behind it the texts are the same.
use Rattle.std.proofs.Common.{◌≡◌, refl, sym, ◌∙◌, ap, Bool, true, false, List, [], ◌∷◌, ◌++◌, ℕ, zero, suc, ◌+◌, ◌-◌, ◌<◌, ◌≤◌, arith, eqb, length, length-append}
use Rattle.std.proofs.lemmas.Bool.{and_parts}
use borrow.Author.Tests.{not-true}
use Rattle.lexical.specs.Text.{byte}
use Rattle.lexical.specs.Name.{all}
use Rattle.rules.specs.Inline.{Read, takes, lacks}
use Rattle.rules.specs.Withhold.{piece, inline, byRead, oddBehind, tried, inlinePieces}
use Rattle.rules.specs.Private.{isPrivate, Form}
use Rattle.rules.specs.declared.Rules.{Rules}
use Rattle.runs.proofs.Corresponding.{early, Corresponding, done, next, late-at}
use Rattle.runs.proofs.Alike.{ahead, behind}
use Rattle.runs.proofs.InlineReads.{Reads, both-take, both-lack, inline-reads}
use Rattle.runs.proofs.Body.{other, inside, bodies-alike}
use Rattle.runs.proofs.Opening.{inline-opens, not-tried, interior, inside-is, interior-closed}
use Rattle.runs.proofs.Less.{ReadMost, tried-most}

module _ (ρ : Rules) (p j₁ j₂ : ℕ) where
  -- ---- behind the body: the same text at moved indices
  pub pieces-behind : (n₁ n₂ : ℕ) (odd : Bool) (s : List ℕ) (i₁ i₂ c : ℕ) → i₁ ≡ j₁ + c → i₂ ≡ j₂ + c → length s ≤ n₁ → length s ≤ n₂
      → Corresponding p j₁ j₂ (inlinePieces ρ n₁ i₁ odd s) (inlinePieces ρ n₂ i₂ odd s)
  unfolding inlinePieces
  pieces-behind zero zero odd s i₁ i₂ c e₁ e₂ a b = done
  pieces-behind zero (suc n₂) odd [] i₁ i₂ c e₁ e₂ a b = done
  pieces-behind zero (suc n₂) odd (x ∷ s) i₁ i₂ c e₁ e₂ a b = absurd (omega arith)
  pieces-behind (suc n₁) zero odd [] i₁ i₂ c e₁ e₂ a b = done
  pieces-behind (suc n₁) zero odd (x ∷ s) i₁ i₂ c e₁ e₂ a b = absurd (omega arith)
  pieces-behind (suc n₁) (suc n₂) odd [] i₁ i₂ c e₁ e₂ a b = done
  pieces-behind (suc n₁) (suc n₂) odd (x ∷ s) i₁ i₂ c e₁ e₂ a b = by-read (λ o t i k d f g. pieces-behind n₁ n₂ o t i k d f g) (tried ρ odd (x ∷ s)) (tried-most ρ odd x s)
    where
      by-read : ((o : Bool) (t : List ℕ) (i₁ i₂ c : ℕ) → i₁ ≡ j₁ + c → i₂ ≡ j₂ + c → length t ≤ n₁ → length t ≤ n₂ → Corresponding p j₁ j₂ (inlinePieces ρ n₁ i₁ o t) (inlinePieces ρ n₂ i₂ o t))
          → (r : Read) → ReadMost s r
          → Corresponding p j₁ j₂ (byRead r (λ _. inlinePieces ρ n₁ (suc i₁) (oddBehind odd x) s) (λ t. piece i₁ (i₁ + (length (x ∷ s) - length t)) inline ∷ inlinePieces ρ n₁ (i₁ + (length (x ∷ s) - length t)) false t))
          (byRead r (λ _. inlinePieces ρ n₂ (suc i₂) (oddBehind odd x) s) (λ t. piece i₂ (i₂ + (length (x ∷ s) - length t)) inline ∷ inlinePieces ρ n₂ (i₂ + (length (x ∷ s) - length t)) false t))
      by-read ih (takes t k) l =
          let d = c + (length (x ∷ s) - length t) in
          let f₁ : i₁ + (length (x ∷ s) - length t) ≡ j₁ + d = omega arith in
          let f₂ : i₂ + (length (x ∷ s) - length t) ≡ j₂ + d = omega arith in
          next (late-at c e₁ e₂) (late-at d f₁ f₂) (ih false t _ _ d f₁ f₂ (omega arith) (omega arith))
      by-read ih (lacks k) l = ih (oddBehind odd x) s (suc i₁) (suc i₂) (suc c) (omega arith) (omega arith) (omega arith) (omega arith)

  -- ---- a paragraph that ends before the body
  pub pieces-prior : (n : ℕ) (odd : Bool) (s : List ℕ) (i : ℕ) → i + length s ≤ p → Corresponding p j₁ j₂ (inlinePieces ρ n i odd s) (inlinePieces ρ n i odd s)
  unfolding inlinePieces
  pieces-prior zero odd s i l = done
  pieces-prior (suc n) odd [] i l = done
  pieces-prior (suc n) odd (x ∷ s) i l = by-read (λ o t k h. pieces-prior n o t k h) (tried ρ odd (x ∷ s)) (tried-most ρ odd x s)
    where
      by-read : ((o : Bool) (t : List ℕ) (k : ℕ) → k + length t ≤ p → Corresponding p j₁ j₂ (inlinePieces ρ n k o t) (inlinePieces ρ n k o t)) → (r : Read) → ReadMost s r
          → Corresponding p j₁ j₂ (byRead r (λ _. inlinePieces ρ n (suc i) (oddBehind odd x) s) (λ t. piece i (i + (length (x ∷ s) - length t)) inline ∷ inlinePieces ρ n (i + (length (x ∷ s) - length t)) false t))
          (byRead r (λ _. inlinePieces ρ n (suc i) (oddBehind odd x) s) (λ t. piece i (i + (length (x ∷ s) - length t)) inline ∷ inlinePieces ρ n (i + (length (x ∷ s) - length t)) false t))
      by-read ih (takes t k) h = next (early i (omega arith)) (early (i + (length (x ∷ s) - length t)) (omega arith)) (ih false t (i + (length (x ∷ s) - length t)) (omega arith))
      by-read ih (lacks k) h = ih (oddBehind odd x) s (suc i) (omega arith)

-- a byte that is no `<`
pub past-other : (ρ : Rules) (n i : ℕ) (odd : Bool) (x : ℕ) (s : List ℕ) → eqb x (byte "<") ≡ false → inlinePieces ρ (suc n) i odd (x ∷ s) ≡ inlinePieces ρ n (suc i) (oddBehind odd x) s
unfolding inlinePieces
past-other ρ n i odd x s e =
    ap (λ (r : Read). byRead r (λ _. inlinePieces ρ n (suc i) (oddBehind odd x) s) (λ t. piece i (i + (length (x ∷ s) - length t)) inline ∷ inlinePieces ρ n (i + (length (x ∷ s) - length t)) false t))
    (not-tried ρ odd x s e)

-- bytes without `<`, the last of them `>`
over-closed : (ρ : Rules) (v : List ℕ) → all (other (byte "<")) v ≡ true → (m i : ℕ) (odd : Bool) (q : List ℕ)
    → inlinePieces ρ (suc (length v + m)) i odd (v ++ (byte ">" ∷ q)) ≡ inlinePieces ρ m (i + suc (length v)) false q
unfolding all
over-closed ρ [] h m i odd q =
    let z : suc i ≡ i + 1 = omega arith in
    let y : 0 + m ≡ m = omega arith in
    ap (λ (k : ℕ). inlinePieces ρ (suc k) i odd (byte ">" ∷ q)) y ∙ past-other ρ m i odd (byte ">") q refl ∙ ap (λ (k : ℕ). inlinePieces ρ m k false q) z
over-closed ρ (x ∷ v) h m i odd q =
    let z : suc i + suc (length v) ≡ i + suc (suc (length v)) = omega arith in
    let y : suc (length v) + m ≡ suc (length v + m) = omega arith in
    ap (λ (k : ℕ). inlinePieces ρ (suc k) i odd (x ∷ (v ++ (byte ">" ∷ q)))) y
    ∙ past-other ρ (suc (length v + m)) i odd x (v ++ (byte ">" ∷ q)) (not-true (eqb x (byte "<")) (and_parts (other (byte "<") x) (all (other (byte "<")) v) h).0)
    ∙ over-closed ρ v (and_parts (other (byte "<") x) (all (other (byte "<")) v) h).1 m (suc i) (oddBehind odd x) q
    ∙ ap (λ (k : ℕ). inlinePieces ρ m k false q) z

-- ---- a paragraph with the body, which stands from p on and has d₁ and d₂ bytes, opening and closer included
module _ (ρ : Rules) (f : Form) (b₁ b₂ q : List ℕ) (h₁ : all isPrivate b₁ ≡ true) (h₂ : all isPrivate b₂ ≡ true) (p d₁ d₂ : ℕ)
    (some₁ : 0 < d₁) (some₂ : 0 < d₂) (is₁ : length (byte "<" ∷ inside f b₁ q) ≡ d₁ + length q) (is₂ : length (byte "<" ∷ inside f b₂ q) ≡ d₂ + length q) where
  abbrev one : List ℕ → List ℕ
  one u = u ++ (byte "<" ∷ inside f b₁ q)

  abbrev two : List ℕ → List ℕ
  two u = u ++ (byte "<" ∷ inside f b₂ q)

  length-one : (u : List ℕ) → length (one u) ≡ length u + (d₁ + length q)
  length-one u = length-append u (byte "<" ∷ inside f b₁ q) ∙ ap (λ (n : ℕ). length u + n) is₁

  length-two : (u : List ℕ) → length (two u) ≡ length u + (d₂ + length q)
  length-two u = length-append u (byte "<" ∷ inside f b₂ q) ∙ ap (λ (n : ℕ). length u + n) is₂

  abbrev Claim : ℕ → ℕ → ℕ → Bool → List ℕ → Type 0
  Claim n₁ n₂ i odd u = Corresponding p (p + d₁) (p + d₂) (inlinePieces ρ n₁ i odd (one u)) (inlinePieces ρ n₂ i odd (two u))

  at-opening : (n₁ n₂ i : ℕ) → i ≡ p → length (one []) ≤ suc n₁ → length (two []) ≤ suc n₂ → Claim (suc n₁) (suc n₂) i false []
  unfolding inlinePieces
  at-opening n₁ n₂ i e a b =
      let k₁ : i + (length (one []) - length q) ≡ (p + d₁) + 0 = omega arith in
      let k₂ : i + (length (two []) - length q) ≡ (p + d₂) + 0 = omega arith in
      rw (inline-opens ρ f b₁ q h₁, inline-opens ρ f b₂ q h₂)
      (next (early i (omega arith)) (late-at 0 k₁ k₂) (pieces-behind ρ p (p + d₁) (p + d₂) n₁ n₂ false q _ _ 0 k₁ k₂ (omega arith) (omega arith)))

  -- an opening that is not tried: no `<` stands in the body or in its closer, which ends in `>`
  past-opening : (n i : ℕ) (b : List ℕ) → all isPrivate b ≡ true → (d : ℕ) → length (byte "<" ∷ inside f b q) ≡ d + length q → d + length q ≤ suc n
      → inlinePieces ρ (suc n) i true (byte "<" ∷ inside f b q) ≡ inlinePieces ρ (suc n - d) (i + d) false q
  unfolding inlinePieces
  past-opening n i b h d is l =
      let v = interior f b in
      let w : length (inside f b q) ≡ length v + suc (length q) = ap length (inside-is f b q) ∙ length-append v (byte ">" ∷ q) in
      let m = n - suc (length v) in
      let e₁ : n ≡ suc (length v + m) = omega arith in
      let e₂ : suc n - d ≡ m = omega arith in
      let e₃ : suc i + suc (length v) ≡ i + d = omega arith in
      ap (λ (t : List ℕ). inlinePieces ρ n (suc i) false t) (inside-is f b q)
      ∙ ap (λ (k : ℕ). inlinePieces ρ k (suc i) false (v ++ (byte ">" ∷ q))) e₁
      ∙ over-closed ρ v (interior-closed f b h) m (suc i) false q
      ∙ ap (λ (k : ℕ). inlinePieces ρ m k false q) e₃
      ∙ ap (λ (k : ℕ). inlinePieces ρ k (i + d) false q) (sym e₂)

  at-escaped : (n₁ n₂ i : ℕ) → i ≡ p → length (one []) ≤ suc n₁ → length (two []) ≤ suc n₂ → Claim (suc n₁) (suc n₂) i true []
  at-escaped n₁ n₂ i e a b =
      rw (past-opening n₁ i b₁ h₁ d₁ is₁ (omega arith), past-opening n₂ i b₂ h₂ d₂ is₂ (omega arith))
      (pieces-behind ρ p (p + d₁) (p + d₂) (suc n₁ - d₁) (suc n₂ - d₂) false q (i + d₁) (i + d₂) 0 (omega arith) (omega arith) (omega arith) (omega arith))

  at-either : (odd : Bool) (n₁ n₂ i : ℕ) → i ≡ p → length (one []) ≤ suc n₁ → length (two []) ≤ suc n₂ → Claim (suc n₁) (suc n₂) i odd []
  at-either true = at-escaped
  at-either false = at-opening

  tried-reads : (odd : Bool) (x : ℕ) (u : List ℕ) → Reads (inside f b₁ q) (inside f b₂ q) q (tried ρ odd (x ∷ one u)) (tried ρ odd (x ∷ two u))
  tried-reads true x u = both-lack 0
  tried-reads false x u = inline-reads (bodies-alike f b₁ b₂ q h₁ h₂) ρ x (ahead u)

  pub pieces-ahead : (n₁ n₂ i : ℕ) (odd : Bool) (u : List ℕ) → i + length u ≡ p → length (one u) ≤ n₁ → length (two u) ≤ n₂ → Claim n₁ n₂ i odd u
  unfolding inlinePieces
  pieces-ahead zero n₂ i odd u e a b = absurd (omega (arith, length-one u))
  pieces-ahead (suc n₁) zero i odd u e a b = absurd (omega (arith, length-two u))
  pieces-ahead (suc n₁) (suc n₂) i odd [] e a b = at-either odd n₁ n₂ i (omega arith) a b
  pieces-ahead (suc n₁) (suc n₂) i odd (x ∷ u) e a b =
      by-reads (λ k o v e' a' b'. pieces-ahead n₁ n₂ k o v e' a' b') (tried-reads odd x u) (tried-most ρ odd x (one u)) (tried-most ρ odd x (two u))
    where
      by-reads : ((k : ℕ) (o : Bool) (v : List ℕ) → k + length v ≡ p → length (one v) ≤ n₁ → length (two v) ≤ n₂ → Claim n₁ n₂ k o v)
          → {r₁ r₂ : Read} → Reads (inside f b₁ q) (inside f b₂ q) q r₁ r₂ → ReadMost (one u) r₁ → ReadMost (two u) r₂
          → Corresponding p (p + d₁) (p + d₂) (byRead r₁ (λ _. inlinePieces ρ n₁ (suc i) (oddBehind odd x) (one u)) (λ t. piece i (i + (length (x ∷ one u) - length t)) inline ∷ inlinePieces ρ n₁ (i + (length (x ∷ one u) - length t)) false t))
          (byRead r₂ (λ _. inlinePieces ρ n₂ (suc i) (oddBehind odd x) (two u)) (λ t. piece i (i + (length (x ∷ two u) - length t)) inline ∷ inlinePieces ρ n₂ (i + (length (x ∷ two u) - length t)) false t))
      by-reads ih (both-lack k) l₁ l₂ = ih (suc i) (oddBehind odd x) u (omega arith) (omega arith) (omega arith)
      by-reads ih (both-take k (ahead v)) l₁ l₂ =
          let u₁ = length-one u in
          let u₂ = length-two u in
          let v₁ = length-one v in
          let v₂ = length-two v in
          let k₁ : i + (length (x ∷ one u) - length (one v)) ≡ i + (length (x ∷ u) - length v) = omega arith in
          let k₂ : i + (length (x ∷ two u) - length (two v)) ≡ i + (length (x ∷ u) - length v) = omega arith in
          rw (k₁, k₂) (next (early i (omega arith)) (early (i + (length (x ∷ u) - length v)) (omega arith)) (ih (i + (length (x ∷ u) - length v)) false v (omega arith) (omega arith) (omega arith)))
      by-reads ih (both-take k (behind t l)) l₁ l₂ =
          let u₁ = length-one u in
          let u₂ = length-two u in
          let k₁ : i + (length (x ∷ one u) - length t) ≡ (p + d₁) + (length q - length t) = omega arith in
          let k₂ : i + (length (x ∷ two u) - length t) ≡ (p + d₂) + (length q - length t) = omega arith in
          next (early i (omega arith)) (late-at (length q - length t) k₁ k₂) (pieces-behind ρ p (p + d₁) (p + d₂) n₁ n₂ false t _ _ (length q - length t) k₁ k₂ (omega arith) (omega arith))
