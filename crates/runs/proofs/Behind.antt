-- The pieces of lines that stand at moved indices are the moved pieces: the lines behind the private bytes.
use Rattle.std.proofs.Common.{◌≡◌, refl, false, List, [], ◌∷◌, ◌++◌, ℕ, zero, suc, ◌+◌, arith, length}
use Rattle.rules.specs.Lines.{Line}
use Rattle.rules.specs.Block.{inLast, stopAfter}
use Rattle.rules.specs.Withhold.{Mark, blockFirst, blockMore, blank, paragraphFirst, paragraphMore, goesOn, linePieces}
use Rattle.rules.specs.declared.Rules.{Rules}
use Rattle.runs.proofs.Corresponding.{At, Corresponding, done, next, both, late-at}
use Rattle.runs.proofs.Paragraph.{pieces-behind}

pub stop-shift : (n : ℕ) (ls : List Line) (i k : ℕ) → stopAfter (i + k) n ls ≡ i + stopAfter k n ls
unfolding inLast
stop-shift zero ls i k = refl
stop-shift (suc n) [] i k = refl
stop-shift (suc zero) (l ∷ ls) i k = omega arith
stop-shift (suc (suc n)) (l ∷ []) i k = omega arith
stop-shift (suc (suc n)) (l ∷ m ∷ ls) i k =
    let e : i + k + length l.content + length m.lead ≡ i + (k + length l.content + length m.lead) = omega arith in
    rw e (stop-shift (suc n) (m ∷ ls) i (k + length l.content + length m.lead))

-- from another index
pub stop-from : (n : ℕ) (ls : List Line) (i : ℕ) → stopAfter i n ls ≡ i + stopAfter 0 n ls
stop-from n ls i = let e : i + 0 ≡ i = omega arith in rw e at (stop-shift n ls i 0)

module _ (ρ : Rules) (p j₁ j₂ : ℕ) where
  pub lines-behind : (ms : List Mark) (ls : List Line) (i₁ i₂ c : ℕ) → i₁ ≡ j₁ + c → i₂ ≡ j₂ + c → Corresponding p j₁ j₂ (linePieces ρ i₁ ms ls) (linePieces ρ i₂ ms ls)
  unfolding linePieces
  lines-behind [] ls i₁ i₂ c e₁ e₂ = done
  lines-behind (m ∷ ms) [] i₁ i₂ c e₁ e₂ = done
  lines-behind (blockFirst k x ∷ ms) (l ∷ ls) i₁ i₂ c e₁ e₂ =
      let s₁ = stop-from x.lines (l ∷ ls) (i₁ + length l.lead) in
      let s₂ = stop-from x.lines (l ∷ ls) (i₂ + length l.lead) in
      let a : At p j₁ j₂ (i₁ + length l.lead) (i₂ + length l.lead) = late-at (c + length l.lead) (omega arith) (omega arith) in
      let b : At p j₁ j₂ (stopAfter (i₁ + length l.lead) x.lines (l ∷ ls)) (stopAfter (i₂ + length l.lead) x.lines (l ∷ ls)) =
      late-at (c + length l.lead + stopAfter 0 x.lines (l ∷ ls)) (omega arith) (omega arith) in
      next a b
      (lines-behind ms ls (i₁ + length l.lead + length l.content) (i₂ + length l.lead + length l.content) (c + length l.lead + length l.content) (omega arith) (omega arith))
  lines-behind (blockMore ∷ ms) (l ∷ ls) i₁ i₂ c e₁ e₂ = lines-behind ms ls (i₁ + length l.lead + length l.content) (i₂ + length l.lead + length l.content) (c + length l.lead + length l.content) (omega arith) (omega arith)
  lines-behind (blank ∷ ms) (l ∷ ls) i₁ i₂ c e₁ e₂ = lines-behind ms ls (i₁ + length l.lead + length l.content) (i₂ + length l.lead + length l.content) (c + length l.lead + length l.content) (omega arith) (omega arith)
  lines-behind (paragraphFirst ∷ ms) (l ∷ ls) i₁ i₂ c e₁ e₂ =
      let t = l.content ++ goesOn ms ls in
      both (pieces-behind ρ p j₁ j₂ (length t) (length t) false t (i₁ + length l.lead) (i₂ + length l.lead) (c + length l.lead) (omega arith) (omega arith) (omega arith) (omega arith))
      (lines-behind ms ls (i₁ + length l.lead + length l.content) (i₂ + length l.lead + length l.content) (c + length l.lead + length l.content) (omega arith) (omega arith))
  lines-behind (paragraphMore ∷ ms) (l ∷ ls) i₁ i₂ c e₁ e₂ = lines-behind ms ls (i₁ + length l.lead + length l.content) (i₂ + length l.lead + length l.content) (c + length l.lead + length l.content) (omega arith) (omega arith)
