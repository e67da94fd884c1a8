-- Across and back: both ways keep the records, so coming back writes the first bytes again. And how long traces are.
use Rattle.std.proofs.Common.{◌≡◌, refl, sym, ◌∙◌, ap, Bool, true, false, ◌||◌, not, List, [], ◌∷◌, ℕ, ◌+◌, ◌*◌, ◌-◌, arith, eqb, ltb, length, eqb-true, ltb-false, le-ltb}
use Rattle.std.proofs.lemmas.Bool.{or_parts}
use borrow.Author.Tests.{not-false}
use Rattle.std.specs.Prelude.{All}
use Rattle.std.proofs.lemmas.List.Elements.{All-nil, All-cons, All-head, All-tail, All-weaker}
use Rattle.lexical.proofs.Cases.{split}
use Rattle.rules.specs.Refusal.{Check, check, refusal}
use Rattle.rules.specs.Trace.{wide, narrow, Record, eventRecord, lastRecord, refusedRecord, traceBytes, readTrace}
use Rattle.rules.proofs.Refusals.{not-met}
use Rattle.records.specs.Records.{records, badRecord, endsOnce, recordsRefusal, traceRefusal}
use Rattle.records.specs.Conversion.{widened, narrowed, isOver, someOver, widenRefusal, narrowRefusal, areBytes, Comes, Across, Sized}
use Rattle.records.proofs.Records.{Sound}
use Rattle.records.proofs.Walks.{written-back, all-sound, nth, read-at, kept, ended-length}

-- ---- what is not refused
-- where nothing is refused, the first number is 0
first-none : (n : ℕ) (cs : List Check) → refusal (check (not (eqb n 0)) n ∷ cs) ≡ 0 → n ≡ 0
unfolding refusal
first-none n cs e = split (eqb n 0) (λ h. eqb-true n 0 h) (λ h. rw h at e)

second-none : (n : ℕ) (b : Bool) (m : ℕ) → eqb m 0 ≡ false → refusal (check (not (eqb n 0)) n ∷ check b m ∷ []) ≡ 0 → b ≡ false
unfolding refusal
second-none n b m k e = let z = first-none n (check b m ∷ []) e in not-met [] [] b m refl k (rw z at e)

module _ (w : ℕ) (s : List ℕ) (e : traceRefusal w s ≡ 0) where
  pub none-bad : badRecord (records w s) ≡ 0
  unfolding traceRefusal recordsRefusal
  none-bad = first-none (badRecord (records w s)) (check (not (endsOnce (records w s))) 10 ∷ []) e

  pub ends : endsOnce (records w s) ≡ true
  unfolding traceRefusal recordsRefusal
  ends = not-false (endsOnce (records w s)) (second-none (badRecord (records w s)) (not (endsOnce (records w s))) 10 refl e)

  pub converted-length : (v : ℕ) → length (traceBytes v (records w s)) ≡ (length (records w s) - 1) * (2 + 3 * v) + (2 + v)
  converted-length v = ended-length v (records w s) none-bad ends

  module _ (b : areBytes s ≡ true) where
    again : traceBytes w (records w s) ≡ s
    again = written-back w s b none-bad

    readable : All (Sound w) (records w s)
    readable = all-sound w s b none-bad

    pub own-length : length s ≡ (length (records w s) - 1) * (2 + 3 * w) + (2 + w)
    own-length = ap length (sym again) ∙ converted-length w

pub sized : Sized
sized = record { size = λ w s b e. own-length w s e b }

-- ---- widths
more : (r : Record) → Sound narrow r → Sound wide r
more (eventRecord k l c i v) s = (s.0, s.1, (omega (arith, s.2.0), omega (arith, s.2.1), omega (arith, s.2.2)))
more (lastRecord k stop n) s = (s.0, s.1, omega (arith, s.2))
more (refusedRecord n) s = absurd s

under : (r : Record) → Sound narrow r → isOver r ≡ false
under (eventRecord k l c i v) s = rw (le-ltb 65535 l (omega (arith, s.2.0)), le-ltb 65535 c (omega (arith, s.2.1)), le-ltb 65535 i (omega (arith, s.2.2)))
under (lastRecord k stop n) s = le-ltb 65535 stop (omega (arith, s.2))
under (refusedRecord n) s = absurd s

less : (r : Record) → Sound wide r → isOver r ≡ false → Sound narrow r
less (eventRecord k l c i v) s e =
    let ci = (or_parts (ltb 65535 l) (ltb 65535 c || ltb 65535 i) e).1 in (
      s.0,
      s.1,
      (
        omega (arith, ltb-false 65535 l (or_parts (ltb 65535 l) (ltb 65535 c || ltb 65535 i) e).0),
        omega (arith, ltb-false 65535 c (or_parts (ltb 65535 c) (ltb 65535 i) ci).0),
        omega (arith, ltb-false 65535 i (or_parts (ltb 65535 c) (ltb 65535 i) ci).1),
      ),
    )
less (lastRecord k stop n) s e = (s.0, s.1, omega (arith, ltb-false 65535 stop e))
less (refusedRecord n) s e = absurd s

none-over : (rs : List Record) → All (Sound narrow) rs → someOver rs ≡ false
unfolding someOver
none-over [] a = refl
none-over (r ∷ rs) a = rw (under r (All-head (Sound narrow) r rs a)) (none-over rs (All-tail (Sound narrow) r rs a))

all-less : (rs : List Record) → All (Sound wide) rs → someOver rs ≡ false → All (Sound narrow) rs
unfolding someOver
all-less [] a e = All-nil (Sound narrow)
all-less (r ∷ rs) a e =
    All-cons (Sound narrow) r rs (less r (All-head (Sound wide) r rs a) (or_parts (isOver r) (someOver rs) e).0)
    (all-less rs (All-tail (Sound wide) r rs a) (or_parts (isOver r) (someOver rs) e).1)

-- ---- what reading and refusing say of a trace they say of its records
read-same : (v w : ℕ) (s t : List ℕ) → records w t ≡ records v s → (n : ℕ) → readTrace w n t ≡ readTrace v n s
read-same v w s t e n = read-at w n t ∙ ap (nth w n) e ∙ sym (read-at v n s)

refused-same : (v w : ℕ) (s t : List ℕ) → records w t ≡ records v s → traceRefusal w t ≡ traceRefusal v s
unfolding traceRefusal
refused-same v w s t e = ap recordsRefusal e

narrow-taken : (t : List ℕ) → traceRefusal wide t ≡ 0 → someOver (records wide t) ≡ false → narrowRefusal t ≡ 0
unfolding narrowRefusal refusal
narrow-taken t e o = rw (e, o)

module _ (s : List ℕ) (e : narrowRefusal s ≡ 0) where
  pub wide-taken : traceRefusal wide s ≡ 0
  unfolding narrowRefusal
  wide-taken = first-none (traceRefusal wide s) (check (someOver (records wide s)) 11 ∷ []) e

  none-above : someOver (records wide s) ≡ false
  unfolding narrowRefusal
  none-above = second-none (traceRefusal wide s) (someOver (records wide s)) 11 refl e

module _ (s : List ℕ) (b : areBytes s ≡ true) where
  widen-first : widenRefusal s ≡ 0 → Comes narrowRefusal narrowed narrow wide s (widened s)
  unfolding widened narrowed
  widen-first e =
      let rs = records narrow s in
      let g = readable narrow s e b in
      let k : records wide (traceBytes wide rs) ≡ rs = kept wide rs (All-weaker (Sound narrow) (Sound wide) more rs g) in
      record {
        taken = narrow-taken (traceBytes wide rs) (refused-same narrow wide s (traceBytes wide rs) k ∙ e) (ap someOver k ∙ none-over rs g);
        first-bytes = ap (traceBytes narrow) k ∙ again narrow s e b;
        kept = k;
        read = read-same narrow wide s (traceBytes wide rs) k;
      }

  narrow-first : narrowRefusal s ≡ 0 → Comes (λ t. widenRefusal t) widened wide narrow s (narrowed s)
  unfolding widened narrowed
  narrow-first e =
      let rs = records wide s in
      let z = wide-taken s e in
      let g = all-less rs (readable wide s z b) (none-above s e) in
      let k : records narrow (traceBytes narrow rs) ≡ rs = kept narrow rs g in
      record {
        taken = refused-same wide narrow s (traceBytes narrow rs) k ∙ z;
        first-bytes = ap (traceBytes wide) k ∙ again wide s z b;
        kept = k;
        read = read-same wide narrow s (traceBytes narrow rs) k;
      }

pub across : Across
across = record { widen-first = λ s b e. widen-first s b e; narrow-first = λ s b e. narrow-first s b e }
