-- Two runs of the code show the same: each run that is not refused shows what the definition says, in the front of its buffer, and over the definition two runs
-- show the same.
use Rattle.std.proofs.Common.{◌≡◌, refl, sym, ◌∙◌, ap, Bool, true, false, List, ℕ, eqb, length, take, drop, eqb-true}
use lib.Seq.{take-append_seam}
use Rattle.lexical.proofs.Cases.{split, clash}
use Rattle.rules.specs.Refusal.{bulletinRefusal}
use Rattle.rules.specs.Withhold.{shown, count, Shown, shows, refusedShown, written}
use Rattle.rules.specs.Spans.{foundSpans, findRefusal, withhold, withholdRefusal}
use Rattle.rules.specs.Edition.{Edition}
use Rattle.rules.specs.declared.Rules.{Rules}
use Rattle.rules.proofs.Refusals.{output-passed}
use Rattle.runs.proofs.EditionRuns.{edition-runs}
use Rattle.screen.specs.Both.{SameAnswers, Alike}

abbrev lengthOf : Shown → ℕ
lengthOf (shows n c) = n
lengthOf (refusedShown r) = 0

abbrev countOf : Shown → ℕ
countOf (shows n c) = c
countOf (refusedShown r) = 0

abbrev isShown : Shown → Bool
isShown (shows n c) = true
isShown (refusedShown r) = false

-- ---- a run that is not refused
module _ (ρ : Rules) (text flags : List ℕ) (list : ℕ) (old : List ℕ) where
  abbrev refusal : ℕ
  refusal = withholdRefusal ρ text flags list (length old)

  pub record Shown-by (n c : ℕ) (new : List ℕ) : Type 0 where
    pub taken : bulletinRefusal text flags ≡ 0
    pub length-is : n ≡ length (shown ρ text flags)
    pub count-is : c ≡ count ρ text flags
    pub bytes-are : take n new ≡ shown ρ text flags

  not-refused : (n c : ℕ) → shows n c ≡ withhold ρ text flags list (length old) → refusal ≡ 0
  unfolding withhold
  not-refused n c e =
      split (eqb refusal 0) (λ h. eqb-true refusal 0 h)
      (λ h. let z : shows n c ≡ refusedShown refusal = simp h at e in clash true refl (ap isShown z))

  answer-is : (n c : ℕ) → shows n c ≡ withhold ρ text flags list (length old) → shows n c ≡ shows (length (shown ρ text flags)) (count ρ text flags)
  unfolding withhold
  answer-is n c e = rw (not-refused n c e) at e

  reads : refusal ≡ 0 → bulletinRefusal text flags ≡ 0
  unfolding withholdRefusal findRefusal
  reads z =
      output-passed (bulletinRefusal text flags) list (foundSpans ρ text flags) (output-passed (findRefusal ρ text flags list) (length old) (shown ρ text flags) z)

  pub shown-by : (n c : ℕ) (new : List ℕ) → shows n c ≡ withhold ρ text flags list (length old) → new ≡ written refusal (shown ρ text flags) old → Shown-by n c new
  unfolding written
  shown-by n c new e w =
      let z = not-refused n c e in
      let a = answer-is n c e in
      let l = ap lengthOf a in
      record {
        taken = reads z;
        length-is = l;
        count-is = ap countOf a;
        bytes-are = ap (λ t. take t new) l ∙ ap (take (length (shown ρ text flags))) (w ∙ rw z refl) ∙ take-append_seam (shown ρ text flags) (drop (length (shown ρ text flags)) old);
      }

-- ---- two runs
module _ (ρ : Rules) (flags one two : List ℕ) (list₁ list₂ : ℕ) (old₁ old₂ new₁ new₂ : List ℕ)
    (w₁ : new₁ ≡ written (withholdRefusal ρ one flags list₁ (length old₁)) (shown ρ one flags) old₁)
    (w₂ : new₂ ≡ written (withholdRefusal ρ two flags list₂ (length old₂)) (shown ρ two flags) old₂) where
  same : (a b : Shown) → a ≡ withhold ρ one flags list₁ (length old₁) → b ≡ withhold ρ two flags list₂ (length old₂) → Edition ρ flags one two → SameAnswers a b new₁ new₂
  same (shows n₁ c₁) (shows n₂ c₂) e f edition =
      let s = shown-by ρ one flags list₁ old₁ n₁ c₁ new₁ e w₁ in
      let t = shown-by ρ two flags list₂ old₂ n₂ c₂ new₂ f w₂ in
      let r = edition-runs ρ flags one two s.taken t.taken edition in
      record {
        same-bytes = s.bytes-are ∙ r.same-bytes ∙ sym t.bytes-are;
        same-length = s.length-is ∙ r.same-length ∙ sym t.length-is;
        same-count = s.count-is ∙ r.same-count ∙ sym t.count-is;
      }
  same (shows n₁ c₁) (refusedShown q) e f edition = tt
  same (refusedShown q) b e f edition = tt

  pub both-alike : (a b : Shown) → a ≡ withhold ρ one flags list₁ (length old₁) → b ≡ withhold ρ two flags list₂ (length old₂) → Alike ρ flags one two a b new₁ new₂
  both-alike a b e f = record { alike = same a b e f }
