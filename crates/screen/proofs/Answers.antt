-- Laws of the room for all spans, and of the answer of withholding: a refusal of what is read, no room in the list or in the buffer, or what is found and shown. Showing
-- beside what was found is not refused, since there is room.
use Rattle.std.proofs.Common.{◌≡◌, refl, sym, ◌∙◌, ap, Bool, true, false, ◌&&◌, List, ℕ, ◌*◌, ◌<◌, ◌≤◌, arith, leb, length, take, drop, length-append, ne_eqb, le-leb, leb-true, leb-false, Result, Ok, Err}
use Rattle.std.proofs.Math.Bool.{and-true}
use Rattle.std.proofs.lemmas.Bool.{and_parts}
use Rattle.std.specs.Result.{IsErrAnd}
use lib.Seq.{take-append_seam}
use Rattle.lexical.proofs.Cases.{split, clash}
use Rattle.rules.specs.Refusal.{bulletinRefusal, refusalNumber}
use Rattle.rules.specs.Withhold.{outside, shown, count, shows, written}
use Rattle.rules.specs.Output.{Wrote, wrote, refusedWrite, answering}
use Rattle.rules.specs.Spans.{foundSpans, findRefusal, asPieces, show, showRefusal, withhold, withholdRefusal}
use Rattle.rules.specs.declared.Rules.{Rules}
use Rattle.rules.specs.declared.refusal.Refusal.{Refusal}
use Rattle.rules.specs.declared.refusal.Refusal.TheVariants.{NoRoom}
use Rattle.rules.proofs.Refusals.{refusal-positive, output-first, output-short, output-fits, raised}
use Rattle.runs.proofs.Spans.{beside-found, found-length, found-most, shown-most, same-refusal}
use Rattle.screen.specs.Answer.{shownOf}
use Rattle.screen.specs.declared.withhold.Withheld.{Withheld}

-- of an answer that writes
abbrev isWrote : Wrote → Bool
isWrote (wrote n) = true
isWrote (refusedWrite r) = false

abbrev lengthOf : Wrote → ℕ
lengthOf (wrote n) = n
lengthOf (refusedWrite r) = 0

-- the entries of a lent buffer, by the refusal
module _ (n : ℕ) (output old : List ℕ) where
  unwritten : (r : Refusal) → n ≡ refusalNumber r → old ≡ written n output old
  unfolding written
  unwritten r e = rw (e, ne_eqb (refusalNumber r) 0 (refusal-positive r)) refl

  all-written : n ≡ 0 → {new : List ℕ} → new ≡ written 0 output old → new ≡ written n output old
  all-written e w = rw e w

module _ (ρ : Rules) (text flags : List ℕ) where
  abbrev spans : List ℕ
  spans = foundSpans ρ text flags

  abbrev output : List ℕ
  output = shown ρ text flags

  -- ---- the refusals, where lists and buffers of these lengths are lent
  module _ (list room : ℕ) where
    find-reads : (r : Refusal) → refusalNumber r ≡ bulletinRefusal text flags → findRefusal ρ text flags list ≡ refusalNumber r
    unfolding findRefusal
    find-reads r e = rw (← e) (output-first (refusalNumber r) list spans (refusal-positive r))

    withhold-reads : (r : Refusal) → refusalNumber r ≡ bulletinRefusal text flags → withholdRefusal ρ text flags list room ≡ refusalNumber r
    unfolding withholdRefusal
    withhold-reads r e = rw (find-reads r e) (output-first (refusalNumber r) room output (refusal-positive r))

    module _ (z : 0 ≡ bulletinRefusal text flags) where
      find-short : leb (length spans) list ≡ false → findRefusal ρ text flags list ≡ 7
      unfolding findRefusal
      find-short h = rw (← z) (output-short list spans (leb-false (length spans) list h))

      find-fits : leb (length spans) list ≡ true → findRefusal ρ text flags list ≡ 0
      unfolding findRefusal
      find-fits h = rw (← z) (output-fits list spans (leb-true (length spans) list h))

      withhold-short : (leb (length spans) list && leb (length output) room) ≡ false → withholdRefusal ρ text flags list room ≡ 7
      unfolding withholdRefusal
      withhold-short h =
          split (leb (length spans) list)
          (λ t. rw (find-fits t) (output-short room output (leb-false (length output) room (ap (λ b. b && leb (length output) room) (sym t) ∙ h))))
          (λ t. rw (find-short t) (output-first 7 room output (refusal-positive NoRoom)))

      withhold-fits : (leb (length spans) list && leb (length output) room) ≡ true → withholdRefusal ρ text flags list room ≡ 0
      unfolding withholdRefusal
      withhold-fits h =
          let both = and_parts (leb (length spans) list) (leb (length output) room) h in
          rw (find-fits both.0) (output-fits room output (leb-true (length output) room both.1))

  -- ---- room for all spans: what is shown fits in as many bytes as there are
  module _ (list : ℕ) {b : Bool} (h : b ≡ (leb (length spans) list && leb (length output) (length text))) where
    list-alone : b ≡ leb (length spans) list
    list-alone = h ∙ ap (λ t. leb (length spans) list && t) (le-leb (length output) (length text) (shown-most ρ text flags)) ∙ and-true (leb (length spans) list)

    pub list-short : b ≡ false → list < length spans
    list-short f = leb-false (length spans) list (sym list-alone ∙ f)

    pub list-fits : b ≡ true → length spans ≤ list
    list-fits t = leb-true (length spans) list (sym list-alone ∙ t)

  -- ---- withholding, into a list and a buffer
  module _ (lent old : List ℕ) where
    abbrev refusal : ℕ
    refusal = withholdRefusal ρ text flags (length lent) (length old)

    pub record Answered (r : Result Withheld Refusal) (listed new : List ℕ) : Type 0 where
      pub answer : shownOf r ≡ withhold ρ text flags (length lent) (length old)
      pub list : listed ≡ written refusal spans lent
      pub buffer : new ≡ written refusal output old

    refused : (r : Refusal) → refusal ≡ refusalNumber r → Answered (Err r) lent old
    unfolding withhold
    refused r e =
        record { answer = rw (e, ne_eqb (refusalNumber r) 0 (refusal-positive r)) refl; list = unwritten refusal spans lent r e; buffer = unwritten refusal output old r e }

    pub refused-reads : (r : Result Withheld Refusal) (e : Refusal) → IsErrAnd r (λ x. x ≡ e) → refusalNumber e ≡ bulletinRefusal text flags → Answered r lent old
    refused-reads r e h k = rw (raised r h) (refused e (withhold-reads (length lent) (length old) e k))

    module _ (z : 0 ≡ bulletinRefusal text flags) where
      pub no-room : (leb (length spans) (length lent) && leb (length output) (length old)) ≡ false → Answered (Err NoRoom) lent old
      no-room h = refused NoRoom (withhold-short (length lent) (length old) z h)

      module _ (fits : (leb (length spans) (length lent) && leb (length output) (length old)) ≡ true) where
        pub list-room : length spans ≤ length lent
        list-room = leb-true (length spans) (length lent) (and_parts _ _ fits).0

        module _ {listed : List ℕ} {pieces : ℕ} (c : pieces ≡ count ρ text flags) (l : listed ≡ written 0 spans lent) where
          numbers : 3 * pieces ≡ length spans
          numbers = ap (λ n. 3 * n) c ∙ sym (found-length ρ text flags)

          pub front-fits : 3 * pieces ≤ length listed
          unfolding written
          front-fits = omega (arith, numbers, ap length l, length-append spans (drop (length spans) lent))

          pub front-short : 3 * pieces ≤ 3 * length text
          front-short = omega (arith, numbers, found-most ρ text flags)

          pub front-is : take (3 * pieces) listed ≡ spans
          unfolding written
          front-is = ap (λ n. take n listed) numbers ∙ ap (take (length spans)) l ∙ take-append_seam spans (drop (length spans) lent)

          not-refused : showRefusal text spans (length old) ≡ 0
          not-refused =
              same-refusal ρ text flags (length lent) (length old) (find-fits (length lent) (length old) z (and_parts _ _ fits).0) ∙ withhold-fits (length lent) (length old) z fits

          shows-all : show text spans (length old) ≡ wrote (length output)
          unfolding show answering
          shows-all = rw (not-refused, beside-found ρ text flags) refl

          -- showing beside what was found gives no refusal
          pub not-err : {front : List ℕ} (e : Refusal) → front ≡ take (3 * pieces) listed → refusedWrite (refusalNumber e) ≡ show text front (length old) → ⊥
          not-err e f h = clash true refl (sym (ap isWrote (h ∙ ap (λ s. show text s (length old)) (f ∙ front-is) ∙ shows-all)))

          pub shown-all : {front new : List ℕ} (n : ℕ) → front ≡ take (3 * pieces) listed → wrote n ≡ show text front (length old)
              → new ≡ written (showRefusal text front (length old)) (outside 0 (asPieces front) text) old → Answered (Ok (record { length = n; pieces = pieces })) listed new
          unfolding withhold
          shown-all n f h w =
              let is = f ∙ front-is in
              let r = withhold-fits (length lent) (length old) z fits in
              let e = ap lengthOf (h ∙ ap (λ s. show text s (length old)) is ∙ shows-all) in
              record {
                answer = rw r (ap (λ k. shows k pieces) e ∙ ap (shows (length output)) c);
                list = all-written refusal spans lent r l;
                buffer = all-written refusal output old r (w ∙ ap (λ s. written (showRefusal text s (length old)) (outside 0 (asPieces s) text) old) is ∙ rw (not-refused, beside-found ρ text flags) refl);
              }
