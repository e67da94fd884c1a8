-- What an answer of the inline scan says of the text: where a scan is not refused, the text is within the limit and has no blank line, and the index is within
-- the text; a stop lies between the index and the end, because what the machine takes ends at a byte behind the index.
use Rattle.std.proofs.Common.{◌≡◌, refl, sym, ◌∙◌, ap, false, List, [], ◌∷◌, ℕ, ◌≤◌, arith, length, drop, ltb-false}
use Rattle.lexical.specs.Text.{limit}
use Rattle.rules.specs.Reading.{crate as ofCrate}
use Rattle.rules.specs.Search.{somewhere}
use Rattle.rules.specs.Refusal.{tooLong, pastEnd, wrongCarry, blankFollows, inlineRefusal}
use Rattle.rules.proofs.Refusals.{not-met, given-passes, given-is, refused-by}
use Rattle.rules.specs.Inline.{Read, takes, lacks, readInline}
use Rattle.rules.specs.Scan.{InlineAnswer, foundInline, noInline, refusedInline, inlineAnswer, inlineAt, inlineScan}
use Rattle.rules.specs.declared.Rules.{Rules}
use Rattle.trace.proofs.Ends.{opened}

-- ---- where it stops
pub record Between (i stop n : ℕ) : Type 0 where
  pub from : i ≤ stop
  pub to : stop ≤ n

-- a piece from i to a stop lies in a text within the limit
pub record Lies (text : List ℕ) (i stop : ℕ) : Type 0 where
  pub small : length text ≤ limit
  pub from : i ≤ stop
  pub to : stop ≤ length text

module _ (text : List ℕ) (i k : ℕ) where
  pub stop-between : k ≤ 5 → (stop c : ℕ) → inlineAt ofCrate text i k ≡ foundInline stop c → Between i stop (length text)
  stop-between h stop c f = let o = opened text i k h stop c f in record { from = omega (arith, o.far); to = o.to }

-- ---- what was checked
pub record Admitted (text : List ℕ) (i k : ℕ) : Type 0 where
  pub small : length text ≤ limit
  pub within : i ≤ length text
  pub counted : k ≤ 5
  pub filled : somewhere blankFollows text ≡ false

module _ (text : List ℕ) (i k : ℕ) where
  pub admitted : inlineRefusal text i k ≡ 0 → Admitted text i k
  unfolding inlineRefusal
  admitted e = record {
    small = ltb-false limit (length text) (not-met [] _ _ 1 refl refl e);
    within = ltb-false (length text) i (not-met (tooLong text ∷ []) _ _ 4 refl refl e);
    counted = ltb-false 5 k (not-met (tooLong text ∷ pastEnd text i ∷ []) _ _ 5 refl refl e);
    filled = not-met (tooLong text ∷ pastEnd text i ∷ wrongCarry k ∷ []) _ _ 6 refl refl e;
  }

  -- ---- by the answer
  answer-no-refusal : (n : ℕ) (r : Read) (m c : ℕ) → inlineAnswer n r ≡ refusedInline m c → ⊥
  answer-no-refusal n (takes s d) m c e = let z : ◌≡◌ {A = ℕ} 0 1 = cc in omega arith
  answer-no-refusal n (lacks d) m c e = let z : ◌≡◌ {A = ℕ} 0 1 = cc in omega arith

  abbrev refused : ℕ → InlineAnswer
  refused n = refusedInline n k

  pub refused-number : (n c : ℕ) → inlineScan ofCrate text i k ≡ refusedInline n c → inlineRefusal text i k ≡ n
  unfolding inlineScan inlineAt
  refused-number n c e =
      let f = refused-by refused (inlineAt ofCrate text i k) (refusedInline n c) (answer-no-refusal (length text) (readInline ofCrate k (drop i text)) n c) (inlineRefusal text i k) e in cc

  found-no-refusal : (stop c m : ℕ) → refused m ≡ foundInline stop c → ⊥
  found-no-refusal stop c m e = let z : ◌≡◌ {A = ℕ} 0 1 = cc in omega arith

  none-no-refusal : (c m : ℕ) → refused m ≡ noInline c → ⊥
  none-no-refusal c m e = let z : ◌≡◌ {A = ℕ} 0 1 = cc in omega arith

  pub found-passes : (stop c : ℕ) → inlineScan ofCrate text i k ≡ foundInline stop c → inlineRefusal text i k ≡ 0
  unfolding inlineScan
  found-passes stop c e = given-passes refused (inlineAt ofCrate text i k) (foundInline stop c) (found-no-refusal stop c) (inlineRefusal text i k) e

  pub found-at : (stop c : ℕ) → inlineScan ofCrate text i k ≡ foundInline stop c → inlineAt ofCrate text i k ≡ foundInline stop c
  unfolding inlineScan
  found-at stop c e = given-is refused (inlineAt ofCrate text i k) (foundInline stop c) (found-no-refusal stop c) (inlineRefusal text i k) e

  pub none-passes : (c : ℕ) → inlineScan ofCrate text i k ≡ noInline c → inlineRefusal text i k ≡ 0
  unfolding inlineScan
  none-passes c e = given-passes refused (inlineAt ofCrate text i k) (noInline c) (none-no-refusal c) (inlineRefusal text i k) e

  pub found-lies : (stop c : ℕ) → inlineScan ofCrate text i k ≡ foundInline stop c → Lies text i stop
  found-lies stop c e =
      let m = admitted (found-passes stop c e) in
      let b = stop-between text i k m.counted stop c (found-at stop c e) in
      record { small = m.small; from = b.from; to = b.to }

  -- the reading of the crate is the one with all eight changes
  pub scan-is : {ρ : Rules} {a : InlineAnswer} → ρ ≡ ofCrate → a ≡ inlineScan ρ text i k → inlineScan ofCrate text i k ≡ a
  scan-is r e = sym (e ∙ ap (λ ρ. inlineScan ρ text i k) r)
