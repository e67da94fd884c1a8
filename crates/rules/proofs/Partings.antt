-- Wherever the reading of the Rust and the standard's part, one of the eight applies, at the place listed for it: SCOPE, The book's own reading. Inline: at `<![` leaving T2 out gives the
-- standard; elsewhere leaving T1 out does, a tag that is found with T1 is found without it, and where a tag is found nothing else begins. Blocks: which of kinds 1 to
-- 6 a line opens no change decides, and what is found reads none but kind 5, which reads F1; whether a line opens kind 7 is a bit. So where none of the eight applies
-- the readings do not part, which is the sentence on the changes (SCOPE, The demands).
use Rattle.std.proofs.Common.{◌≡◌, refl, sym, ◌∙◌, ap, Bool, true, false, List, [], ◌∷◌, ℕ, ◌-◌, eqb, length, drop, eqb-true}
use Rattle.lexical.specs.Text.{byte, bytes}
use Rattle.lexical.specs.Byte.{isLetter}
use Rattle.lexical.proofs.Cases.{split, clash, excluded}
use Rattle.rules.specs.Reading.{Change, F1, F2, F3, F4, F5, F6, T1, T2, crate, standard, without}
use Rattle.rules.specs.Search.{choose, begins, Left, left, nothing, orElse}
use Rattle.rules.specs.Tag.{Grammar, inlineTags, openTag, closingTag}
use Rattle.rules.specs.Inline.{comment, instruction, declaration, carrying, htmlTag}
use Rattle.rules.specs.Lines.{Line}
use Rattle.rules.specs.Block.{startsComplete, kindOf}
use Rattle.rules.specs.Refusal.{inlineRefusal, blockRefusal}
use Rattle.rules.specs.Scan.{InlineAnswer, foundInline, noInline, inlineAnswer, inlineAt, inlineScan, BlockAnswer, foundBlock, noBlock, blockOf, linesAt, blockAt, blockScan}
use Rattle.rules.specs.Changes.{Unchanged, NoneApplies}
use Rattle.rules.specs.Rows.{sameInline, sameBlock}
use Rattle.rules.specs.Partings.{Parts, Applies, OneApplies, onlyStandardTag, inlineListed, foundKind, onlyOneSeven, blockListed, PlacesComplete}
use Rattle.rules.specs.declared.Rules.{Rules}
use Rattle.rules.proofs.Comment.{comment-is}
use Rattle.rules.proofs.Same.{told-apart, inline-self, inline-same, block-self, block-same}
use Rattle.rules.proofs.Complete.{left-nothing, open-on}
use Rattle.rules.proofs.Changes.{elsewhere, read-without-T1, read-without-T2, seventh, falls, grows, Kinds, fixed, bit, kinds, other-closer, found-alike, foundOf, by-kind, by-bit, block-without-F1}

-- ---- inline
-- what may stand there but an open tag
abbrev others : List ℕ → Left
others s = orElse (closingTag s) (λ _. orElse (comment s) (λ _. orElse (instruction s) (λ _. declaration s)))

-- where there is one, nothing else begins
open-alone : (g : Grammar) (s t : List ℕ) → openTag g s ≡ left t → others s ≡ nothing
unfolding openTag closingTag instruction declaration
open-alone g [] t h = absurd (left-nothing t h)
open-alone g (x ∷ []) t h = split (eqb x (byte "<")) (λ e. absurd (left-nothing t (simp e at h))) (λ e. absurd (left-nothing t (simp e at h)))
open-alone g (x ∷ y ∷ s) t h =
    split (eqb x (byte "<"))
    (λ e.
    split (isLetter y)
    (λ l. rw (comment-is (x ∷ y ∷ s), e, excluded isLetter (byte "/") y refl l, excluded isLetter (byte "!") y refl l, excluded isLetter (byte "?") y refl l) refl)
    (λ l. absurd (left-nothing t (simp (e, l) at h))))
    (λ e. absurd (left-nothing t (simp e at h)))

only-standard : (s : List ℕ) (a b : InlineAnswer) (n k : ℕ) (t : List ℕ) → a ≡ noInline k → b ≡ foundInline n k → openTag (inlineTags standard) s ≡ left t → onlyStandardTag s a b ≡ true
only-standard s a b n k t ea eb et = rw (ea, eb, et) refl

module _ (text : List ℕ) (i k : ℕ) where
  abbrev s : List ℕ
  s = drop i text

  abbrev scan : Rules → InlineAnswer
  scan ρ = inlineAt ρ text i k

  abbrev Place : Type 0
  Place = OneApplies scan (inlineListed s)

  tag-is : (ρ : Rules) (l : Left) → openTag (inlineTags ρ) s ≡ l → htmlTag ρ s ≡ orElse l (λ _. others s)
  unfolding htmlTag
  tag-is ρ l e = rw e refl

  module _ (parts : Parts scan) (e : begins (bytes "<![") s ≡ false) where
    scan-is : (ρ : Rules) (l : Left) → openTag (inlineTags ρ) s ≡ l → scan ρ ≡ inlineAnswer (length text) (carrying k (orElse l (λ _. others s)))
    unfolding inlineAt
    scan-is ρ l h = ap (inlineAnswer (length text)) (elsewhere ρ k s e ∙ ap (carrying k) (tag-is ρ l h))

    t1-applies : Applies scan T1
    unfolding inlineAt
    t1-applies h = parts (h ∙ ap (inlineAnswer (length text)) (read-without-T1 k s e))

    -- what the two readings make of an open tag
    by-tags : (a b : Left) → openTag (inlineTags crate) s ≡ a → openTag (inlineTags standard) s ≡ b → Place
    by-tags (left t) b ha hb = absurd (parts (scan-is crate (left t) ha ∙ sym (scan-is standard (left t) (open-on t s ha))))
    by-tags nothing nothing ha hb = absurd (parts (scan-is crate nothing ha ∙ sym (scan-is standard nothing hb)))
    by-tags nothing (left t) ha hb =
        let none = scan-is crate nothing ha ∙ ap (λ (l : Left). inlineAnswer (length text) (carrying k l)) (open-alone (inlineTags standard) s t hb) in
        record { change = T1; applies = t1-applies; place = only-standard s (scan crate) (scan standard) (length text - length t) k t none (scan-is standard (left t) hb) hb }

  inline-place : Parts scan → Place
  unfolding inlineAt
  inline-place parts =
      split (begins (bytes "<![") s)
      (λ e. record { change = T2; applies = λ h. parts (h ∙ ap (inlineAnswer (length text)) (read-without-T2 k s e)); place = e })
      (λ e. by-tags parts e (openTag (inlineTags crate) s) (openTag (inlineTags standard) s) refl refl)

-- ---- kinds 1 to 6
module _ (i : ℕ) (l : Line) (ls : List Line) where
  abbrev block : Rules → BlockAnswer
  block ρ = blockOf ρ i (l ∷ ls)

  five : (ρ : Rules) → kindOf ρ l ≡ 5 → foundKind (block ρ) ≡ 5
  five ρ e = ap foundKind (by-kind i l ls ρ 5 e)

  -- no kind but 5 reads F1
  not-five : (n : ℕ) → eqb n 5 ≡ false → ((ρ : Rules) → kindOf ρ l ≡ n) → block crate ≡ block standard
  not-five n h e =
      by-kind i l ls crate n (e crate)
      ∙ ap (λ b. choose (eqb n 0) (λ _. noBlock) (λ _. foundBlock b)) (found-alike crate standard n (other-closer crate standard n h) i l ls)
      ∙ sym (by-kind i l ls standard n (e standard))

  by-fixed : (n : ℕ) → ((ρ : Rules) → kindOf ρ l ≡ n) → Parts block → OneApplies block blockListed
  by-fixed n e parts =
      split (eqb n 5)
      (λ h.
      let z = eqb-true n 5 h in
      record { change = F1; applies = λ a. parts (a ∙ block-without-F1 i l ls n e); place = rw (five crate (e crate ∙ z), five standard (e standard ∙ z)) refl })
      (λ h. absurd (parts (not-five n h e)))

-- ---- kind 7
module _ (f : ℕ) (t : List ℕ) where
  -- a change without which the line does not open kind 7, as it does with all eight
  record Culprit : Type 0 where
    change : Change
    listed : (a b : BlockAnswer) → blockListed a b change ≡ onlyOneSeven a b
    without-it : seventh (without change) f t ≡ false

  -- F1, T1 and T2 are not read
  each-opens : seventh crate f t ≡ true → seventh (without F2) f t ≡ true → seventh (without F3) f t ≡ true → seventh (without F4) f t ≡ true → seventh (without F5) f t ≡ true
      → seventh (without F6) f t ≡ true → (c : Change) → seventh (without c) f t ≡ true
  unfolding startsComplete
  each-opens y a2 a3 a4 a5 a6 F1 = y
  each-opens y a2 a3 a4 a5 a6 F2 = a2
  each-opens y a2 a3 a4 a5 a6 F3 = a3
  each-opens y a2 a3 a4 a5 a6 F4 = a4
  each-opens y a2 a3 a4 a5 a6 F5 = a5
  each-opens y a2 a3 a4 a5 a6 F6 = a6
  each-opens y a2 a3 a4 a5 a6 T1 = y
  each-opens y a2 a3 a4 a5 a6 T2 = y

  culprit : seventh crate f t ≡ true → seventh standard f t ≡ false → Culprit
  culprit y n =
      split (seventh (without F2) f t)
      (λ a2. split (seventh (without F3) f t)
      (λ a3. split (seventh (without F4) f t)
      (λ a4. split (seventh (without F5) f t)
      (λ a5. split (seventh (without F6) f t)
      (λ a6. clash (seventh standard f t) (falls f t (each-opens y a2 a3 a4 a5 a6)) n)
      (λ z. record { change = F6; listed = λ a b. refl; without-it = z }))
      (λ z. record { change = F5; listed = λ a b. refl; without-it = z }))
      (λ z. record { change = F4; listed = λ a b. refl; without-it = z }))
      (λ z. record { change = F3; listed = λ a b. refl; without-it = z }))
      (λ z. record { change = F2; listed = λ a b. refl; without-it = z })

module _ (i : ℕ) (l : Line) (ls : List Line) (f : ℕ) (t : List ℕ) (e : (ρ : Rules) → kindOf ρ l ≡ choose (seventh ρ f t) (λ _. 7) (λ _. 0)) where
  abbrev scan-at : Rules → BlockAnswer
  scan-at ρ = blockOf ρ i (l ∷ ls)

  abbrev seven : BlockAnswer
  seven = foundBlock (foundOf i l ls standard 7)

  is : (ρ : Rules) (b : Bool) → seventh ρ f t ≡ b → scan-at ρ ≡ choose b (λ _. seven) (λ _. noBlock)
  is ρ b h = by-bit i l ls ρ b (e ρ ∙ ap (λ (c : Bool). choose c (λ _. 7) (λ _. 0)) h)

  apart : seven ≡ noBlock → ⊥
  apart h = clash (eqb (foundKind seven) 7) refl (ap (λ a. eqb (foundKind a) 7) h)

  only-crate : seventh crate f t ≡ true → seventh standard f t ≡ false → OneApplies scan-at blockListed
  only-crate y n =
      let c = culprit f t y n in
      record {
        change = c.change;
        applies = λ h. apart (sym (is crate true y) ∙ h ∙ is (without c.change) false c.without-it);
        place = c.listed (scan-at crate) (scan-at standard) ∙ rw (is crate true y, is standard false n) refl;
      }

  only-standard-seven : seventh crate f t ≡ false → seventh standard f t ≡ true → OneApplies scan-at blockListed
  only-standard-seven n y =
      record {
        change = F4;
        applies = λ h. apart (sym (is (without F4) true (grows f t y)) ∙ sym h ∙ is crate false n);
        place = rw (is crate false n, is standard true y) refl;
      }

  by-seventh : Parts scan-at → OneApplies scan-at blockListed
  by-seventh parts =
      split (seventh crate f t)
      (λ y. split (seventh standard f t) (λ z. absurd (parts (is crate true y ∙ sym (is standard true z)))) (λ n. only-crate y n))
      (λ n. split (seventh standard f t) (λ y. only-standard-seven n y) (λ z. absurd (parts (is crate false n ∙ sym (is standard false z)))))

block-place : (i : ℕ) (ls : List Line) → Parts (λ ρ. blockOf ρ i ls) → OneApplies (λ ρ. blockOf ρ i ls) blockListed
unfolding blockOf
block-place i [] parts = absurd (parts refl)
block-place i (l ∷ ls) parts = by-kinds (kinds l)
  where
    by-kinds : Kinds (λ ρ. kindOf ρ l) → OneApplies (λ ρ. blockOf ρ i (l ∷ ls)) blockListed
    by-kinds (fixed n e) = by-fixed i l ls n e parts
    by-kinds (bit f t e) = by-seventh i l ls f t e parts

-- ---- the theorems
-- readings do not part where a scan is refused
module _ {A : Type 0} (refused : A) (at : Rules → A) (listed : A → A → Change → Bool) (place : Parts at → OneApplies at listed) where
  unless-refused : (taken : Bool) → Parts (λ ρ. choose taken (λ _. at ρ) (λ _. refused)) → OneApplies (λ ρ. choose taken (λ _. at ρ) (λ _. refused)) listed
  unless-refused true parts = place parts
  unless-refused false parts = absurd (parts refl)

pub places-complete : PlacesComplete
unfolding inlineScan blockScan blockAt
places-complete = record {
  inline = λ text i k. unless-refused _ (λ ρ. inlineAt ρ text i k) (inlineListed (drop i text)) (inline-place text i k) (eqb (inlineRefusal text i k) 0);
  block = λ text flags i. unless-refused _ (λ ρ. blockOf ρ i (linesAt text flags i)) blockListed (block-place i (linesAt text flags i)) (eqb (blockRefusal text flags i) 0);
}

-- answers that a test tells apart: where no change applies they are the same
module _ {A : Type 0} (test : A → A → Bool) (self : (a : A) → test a a ≡ true) (same : (a b : A) → test a b ≡ true → a ≡ b)
    (scan : Rules → A) (listed : A → A → Change → Bool) (place : Parts scan → OneApplies scan listed) where
  unchanged : Unchanged scan
  unchanged h =
      split (test (scan crate) (scan standard)) (same (scan crate) (scan standard))
      (λ e. let one = place (told-apart test (scan crate) (scan standard) (self (scan crate)) e) in absurd (one.applies (h one.change)))

pub none-applies : NoneApplies
none-applies = record {
  inline = λ text i k. unchanged sameInline inline-self inline-same (λ ρ. inlineScan ρ text i k) (inlineListed (drop i text)) (places-complete.inline text i k);
  block = λ text flags i. unchanged sameBlock block-self block-same (λ ρ. blockScan ρ text flags i) blockListed (places-complete.block text flags i);
}
