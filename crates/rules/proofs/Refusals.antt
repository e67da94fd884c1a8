-- Laws of refusals: down the table, the first check that applies is given.
use Rattle.std.proofs.Common.{◌≡◌, refl, sym, ◌∙◌, ap, Bool, true, false, ◌&&◌, not, List, [], ◌∷◌, ◌++◌, ℕ, ◌<◌, ◌≤◌, eqb, length, eq-eqb, eqb-true, ne_eqb, lt-ltb, le-ltb, ltb-false, Result, Ok, Err}
use Rattle.std.proofs.lemmas.Bool.{and_parts}
use Rattle.lexical.specs.Text.{limit}
use Rattle.lexical.proofs.Cases.{split, clash}
use Rattle.std.specs.Result.{IsErrAnd}
use Rattle.rules.specs.Search.{choose}
use Rattle.rules.specs.Refusal.{Check, check, refusal, bulletinRefusal, outputRefusal, refusalNumber}
use Rattle.rules.specs.declared.refusal.Refusal.{Refusal}
use Rattle.rules.specs.declared.refusal.Refusal.TheVariants.{TooLong, WrongCount, WrongFlag, WrongIndex, WrongCarry, BlankLine, NoRoom, WrongKind, CutOff, NotEnded, NotNarrow, WrongSpans}

-- ---- the code's refusals
pub refusal-positive : (r : Refusal) → refusalNumber r ≡ 0 → ⊥
refusal-positive TooLong h = cc
refusal-positive WrongCount h = cc
refusal-positive WrongFlag h = cc
refusal-positive WrongIndex h = cc
refusal-positive WrongCarry h = cc
refusal-positive BlankLine h = cc
refusal-positive NoRoom h = cc
refusal-positive WrongKind h = cc
refusal-positive CutOff h = cc
refusal-positive NotEnded h = cc
refusal-positive NotNarrow h = cc
refusal-positive WrongSpans h = cc

-- what `?` passes on
pub raised : {A : Type 0} (r : Result A Refusal) {e : Refusal} → IsErrAnd r (λ x. x ≡ e) → r ≡ Err e
raised (Ok a) h = absurd h
raised (Err x) h = ap Err h

-- ---- the first check
pub applies : (b : Bool) (n : ℕ) (cs : List Check) → b ≡ true → refusal (check b n ∷ cs) ≡ n
unfolding refusal
applies b n cs h = rw h

pub passes : (b : Bool) (n : ℕ) (cs : List Check) → b ≡ false → refusal (check b n ∷ cs) ≡ refusal cs
unfolding refusal
passes b n cs h = rw h

pub no-more : refusal [] ≡ 0
unfolding refusal
no-more = refl

-- ---- checks in front of others
pub refused-front : (cs ds : List Check) → (refusal cs ≡ 0 → ⊥) → refusal (cs ++ ds) ≡ refusal cs
unfolding refusal
refused-front [] ds h = absurd (h refl)
refused-front (check true n ∷ cs) ds h = refl
refused-front (check false n ∷ cs) ds h = refused-front cs ds h

-- no number is 0
abbrev pub numbered : List Check → Bool
numbered [] = true
numbered (check b n ∷ cs) = not (eqb n 0) && numbered cs

pub passed-front : (cs ds : List Check) → numbered cs ≡ true → refusal cs ≡ 0 → refusal (cs ++ ds) ≡ refusal ds
unfolding refusal
passed-front [] ds k h = refl
passed-front (check true n ∷ cs) ds k h = clash (not (eqb n 0)) (and_parts (not (eqb n 0)) (numbered cs) k).0 (ap not (eq-eqb n 0 h))
passed-front (check false n ∷ cs) ds k h = passed-front cs ds (and_parts (not (eqb n 0)) (numbered cs) k).1 h

-- where nothing is refused, no test applies
pub not-met : (cs ds : List Check) (b : Bool) (n : ℕ) → numbered cs ≡ true → eqb n 0 ≡ false → refusal (cs ++ (check b n ∷ ds)) ≡ 0 → b ≡ false
unfolding refusal
not-met [] ds true n k e h = clash (eqb n 0) (eq-eqb n 0 h) e
not-met [] ds false n k e h = refl
not-met (check true m ∷ cs) ds b n k e h = clash (not (eqb m 0)) (and_parts (not (eqb m 0)) (numbered cs) k).0 (ap not (eq-eqb m 0 h))
not-met (check false m ∷ cs) ds b n k e h = not-met cs ds b n (and_parts (not (eqb m 0)) (numbered cs) k).1 e h

-- a bulletin that is not refused is within the limit
pub within-limit : (text flags : List ℕ) → bulletinRefusal text flags ≡ 0 → length text ≤ limit
unfolding bulletinRefusal
within-limit text flags e = ltb-false limit (length text) (not-met [] _ _ 1 refl refl e)

-- ---- an entry that writes: the refusal of what it reads comes first; then the buffer is too short, or the output fits
pub output-first : (n room : ℕ) (output : List ℕ) → (n ≡ 0 → ⊥) → outputRefusal n room output ≡ n
unfolding outputRefusal refusal
output-first n room output h = rw (ne_eqb n 0 h)

pub output-short : (room : ℕ) (output : List ℕ) → room < length output → outputRefusal 0 room output ≡ 7
unfolding outputRefusal refusal
output-short room output h = rw (lt-ltb room (length output) h)

pub output-fits : (room : ℕ) (output : List ℕ) → length output ≤ room → outputRefusal 0 room output ≡ 0
unfolding outputRefusal refusal
output-fits room output h = rw (le-ltb room (length output) h)

pub output-passed : (n room : ℕ) (output : List ℕ) → outputRefusal n room output ≡ 0 → n ≡ 0
output-passed n room output z = split (eqb n 0) (λ h. eqb-true n 0 h) (λ h. sym (output-first n room output (λ s. clash (eqb n 0) (eq-eqb n 0 s) h)) ∙ z)

pub output-reads : (n room : ℕ) (output : List ℕ) → length output ≤ room → outputRefusal n room output ≡ n
unfolding outputRefusal refusal
output-reads n room output h = split (eqb n 0) (λ z. rw (eqb-true n 0 z, le-ltb room (length output) h) refl) (λ z. rw z refl)

-- ---- an answer, or what a refusal makes of its number
module _ {A : Type 0} (refused : ℕ → A) (answer : A) where
  abbrev pub unless : ℕ → A
  unless n = choose (eqb n 0) (λ _. answer) (λ _. refused n)

  abbrev pub decided : List Check → A
  decided cs = unless (refusal cs)

  pub refuses : (cs : List Check) (n : ℕ) → eqb n 0 ≡ false → refusal cs ≡ n → decided cs ≡ refused n
  refuses cs n e h = rw (h, e)

  pub answers : (cs : List Check) → refusal cs ≡ 0 → decided cs ≡ answer
  answers cs h = rw h

  -- what comes out and is no refusal is the answer
  module _ (x : A) (no : (m : ℕ) → refused m ≡ x → ⊥) (n : ℕ) where
    pub given-passes : unless n ≡ x → n ≡ 0
    given-passes e = split (eqb n 0) (λ t. eqb-true n 0 t) (λ t. absurd (no n (rw t at e)))

    pub given-is : unless n ≡ x → answer ≡ x
    given-is e = rw (eq-eqb n 0 (given-passes e)) at e

  -- what comes out and is no answer is a refusal
  module _ (x : A) (no : answer ≡ x → ⊥) (n : ℕ) where
    pub refused-by : unless n ≡ x → refused n ≡ x
    refused-by e = split (eqb n 0) (λ t. absurd (no (rw t at e))) (λ t. rw t at e)

    pub refused-some : unless n ≡ x → n ≡ 0 → ⊥
    refused-some e z = no (rw (eq-eqb n 0 z) at e)
