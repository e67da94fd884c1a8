-- Laws of walking over the records of a trace: the record in front, and those behind it; what is bad, what ends it; and that a trace which is taken and its records
-- are the same.
use Rattle.std.proofs.Common.{◌≡◌, refl, sym, ◌∙◌, ap, true, false, List, [], ◌∷◌, ◌++◌, ℕ, zero, suc, ◌+◌, ◌*◌, ◌-◌, ◌<◌, ◌≤◌, arith, eqb, leb, length, get_or, take, drop, length-append, length-drop, take-append-drop, eqb-true}
use Rattle.std.proofs.lemmas.List.{drop_all, drop_more}
use Rattle.std.proofs.Math.Nat.{suc-mul}
use borrow.Author.Tests.{eqb-false}
use Rattle.std.specs.Prelude.{All}
use Rattle.std.proofs.lemmas.List.Elements.{All-nil, All-cons, All-head, All-tail}
use Rattle.lexical.proofs.Cases.{split}
use Rattle.rules.specs.Refusal.{refusal, refusalNumber}
use Rattle.rules.specs.declared.refusal.Refusal.{Refusal}
use Rattle.rules.proofs.Refusals.{refusal-positive}
use Rattle.rules.specs.Trace.{Record, eventRecord, lastRecord, refusedRecord, recordBytes, traceBytes, recordLength, recordRefusal, recordAt, unlessRefused, readTrace}
use Rattle.records.specs.Records.{recordsFrom, records, badRecord, endsOnce}
use Rattle.records.specs.Conversion.{areBytes}
use Rattle.records.proofs.Fields.{bytes-drop}
use Rattle.records.proofs.Records.{Sound, lastAt, head, whole, record-none, event-at, last-at, either, front, event-bytes, last-bytes, sound, back}

module _ (w : ℕ) where
  -- ---- the list of records
  some-bytes : (k : ℕ) → 1 ≤ recordLength w k
  unfolding recordLength
  some-bytes k = split (leb k 12) (λ h. rw h (omega arith)) (λ h. rw h (omega arith))

  shorter : (x : ℕ) (t : List ℕ) → length (drop (recordLength w x) (x ∷ t)) ≤ length t
  shorter x t = omega (arith, length-drop (recordLength w x) (x ∷ t), some-bytes x)

  -- more room than bytes changes nothing
  enough : (m n : ℕ) (s : List ℕ) → length s ≤ m → length s ≤ n → recordsFrom w m s ≡ recordsFrom w n s
  unfolding recordsFrom
  enough zero zero [] h k = refl
  enough zero (suc n) [] h k = refl
  enough (suc m) zero [] h k = refl
  enough (suc m) (suc n) [] h k = refl
  enough zero n (x ∷ t) h k = absurd (omega arith)
  enough (suc m) zero (x ∷ t) h k = absurd (omega arith)
  enough (suc m) (suc n) (x ∷ t) h k =
      let rest = drop (recordLength w x) (x ∷ t) in
      ap (λ rs. recordAt w (x ∷ t) ∷ rs) (enough m n rest (omega (arith, shorter x t)) (omega (arith, shorter x t)))

  records-cons : (x : ℕ) (t : List ℕ) → records w (x ∷ t) ≡ recordAt w (x ∷ t) ∷ records w (drop (recordLength w x) (x ∷ t))
  unfolding records recordsFrom
  records-cons x t =
      let rest = drop (recordLength w x) (x ∷ t) in
      ap (λ rs. recordAt w (x ∷ t) ∷ rs) (enough (length t) (length rest) rest (shorter x t) (omega arith))

  module _ (s : List ℕ) where
    -- what stands behind the record in front
    abbrev pub behind : List ℕ
    behind = drop (recordLength w (get_or s 0 0)) s

    pub forward : 0 < length s → length behind < length s
    forward h = omega (arith, length-drop (recordLength w (get_or s 0 0)) s, some-bytes (get_or s 0 0))

    pub records-in : 0 < length s → records w s ≡ recordAt w s ∷ records w behind
    records-in h =
        let e = drop_more s 0 0 h in
        ap (records w) e
        ∙ records-cons (get_or s 0 0) (drop 1 s)
        ∙ ap (λ l. recordAt w l ∷ records w (drop (recordLength w (get_or s 0 0)) l)) (sym e)

    pub records-out : length s ≡ 0 → records w s ≡ []
    unfolding records recordsFrom
    records-out h = rw h

  -- what holds of no bytes, and of some where it holds behind the record in front, holds of any
  walk : (P : List ℕ → Type 0) → ((s : List ℕ) → length s ≡ 0 → P s) → ((s : List ℕ) → 0 < length s → P (behind s) → P s) → (s : List ℕ) → P s
  walk P end step s = go (length s) s (omega arith)
    where
      go : (n : ℕ) (s : List ℕ) → length s ≤ n → P s
      go zero s h = end s (omega arith)
      go (suc n) s h = split (eqb (length s) 0) (λ t. end s (eqb-true (length s) 0 t)) (λ t. let some = eqb-false (length s) 0 t in step s (omega arith) (go n (behind s) (omega (arith, forward s))))

  -- ---- the first bad record
  module _ (s : List ℕ) where
    bad-flaw : 0 < length s → (recordRefusal w s ≡ 0 → ⊥) → badRecord (records w s) ≡ recordRefusal w s
    unfolding badRecord
    bad-flaw h f = ap badRecord (records-in s h) ∙ ap (λ r. badRecord (r ∷ records w (behind s))) (record-none w s f)

    pub bad-here : 0 < length s → (r : Refusal) → refusalNumber r ≡ recordRefusal w s → refusalNumber r ≡ badRecord (records w s)
    bad-here h r e = e ∙ sym (bad-flaw h (λ z. refusal-positive r (e ∙ z)))

    pub bad-on : recordRefusal w s ≡ 0 → badRecord (records w s) ≡ badRecord (records w (behind s))
    unfolding badRecord
    bad-on f =
        let rest = records w (behind s) in
        ap badRecord (records-in s (whole w s f).starts) ∙ either w s f (λ r. badRecord (r ∷ rest) ≡ badRecord rest) (λ k. refl) (λ k. refl)

    pub bad-out : length s ≡ 0 → badRecord (records w s) ≡ 0
    unfolding badRecord
    bad-out h = ap badRecord (records-out s h)

    -- where no record is bad
    module _ (h : 0 < length s) (none : badRecord (records w s) ≡ 0) where
      pub no-flaw : recordRefusal w s ≡ 0
      no-flaw =
          split (eqb (recordRefusal w s) 0) (λ e. eqb-true (recordRefusal w s) 0 e)
          (λ e. sym (bad-flaw h (eqb-false (recordRefusal w s) 0 e)) ∙ none)

      pub none-on : badRecord (records w (behind s)) ≡ 0
      none-on = sym (bad-on no-flaw) ∙ none

      -- what ends them
      pub ends-on : get_or s 0 0 ≤ 12 → endsOnce (records w s) ≡ endsOnce (records w (behind s))
      unfolding endsOnce
      ends-on k = ap endsOnce (records-in s h) ∙ ap (λ r. endsOnce (r ∷ records w (behind s))) (event-at w s no-flaw k)

      pub ends-last : 12 < get_or s 0 0 → eqb (length (behind s)) 0 ≡ endsOnce (records w s)
      unfolding endsOnce
      ends-last k =
          let is : records w s ≡ lastAt w s ∷ records w (behind s) = records-in s h ∙ ap (λ r. r ∷ records w (behind s)) (last-at w s no-flaw k) in
          split (eqb (length (behind s)) 0)
          (λ e. e ∙ sym (ap endsOnce (is ∙ ap (λ l. lastAt w s ∷ l) (records-out (behind s) (eqb-true (length (behind s)) 0 e)))))
          (λ e. let some = eqb-false (length (behind s)) 0 e in e ∙ sym (ap endsOnce (is ∙ ap (λ l. lastAt w s ∷ l) (records-in (behind s) (omega arith)))))

    pub ends-out : length s ≡ 0 → endsOnce (records w s) ≡ false
    unfolding endsOnce
    ends-out h = ap endsOnce (records-out s h)

  -- ---- a trace with no bad record, of bytes: its records can be read, and give its bytes
  pub written-back : (s : List ℕ) → areBytes s ≡ true → badRecord (records w s) ≡ 0 → traceBytes w (records w s) ≡ s
  unfolding traceBytes
  written-back =
      walk (λ s. areBytes s ≡ true → badRecord (records w s) ≡ 0 → traceBytes w (records w s) ≡ s)
      (λ s h b e. ap (traceBytes w) (records-out s h) ∙ sym (drop_all 0 s (omega arith)))
      (λ s h go b e.
      let k = recordLength w (get_or s 0 0) in
      ap (traceBytes w) (records-in s h)
      ∙ ap (λ t. t ++ traceBytes w (records w (behind s))) (back w s b (no-flaw s h e))
      ∙ ap (λ t. take k s ++ t) (go (bytes-drop k s b) (none-on s h e))
      ∙ take-append-drop k s)

  pub all-sound : (s : List ℕ) → areBytes s ≡ true → badRecord (records w s) ≡ 0 → All (Sound w) (records w s)
  all-sound =
      walk (λ s. areBytes s ≡ true → badRecord (records w s) ≡ 0 → All (Sound w) (records w s))
      (λ s h b e. rw (records-out s h) (All-nil (Sound w)))
      (λ s h go b e.
      rw (records-in s h)
      (All-cons (Sound w) (recordAt w s) (records w (behind s)) (sound w s b (no-flaw s h e)) (go (bytes-drop (recordLength w (get_or s 0 0)) s b) (none-on s h e))))

  -- ---- reading by number: with n > 0 to go, one less behind a record that is none of refusal
  module _ (s : List ℕ) where
    read-next : (n : ℕ) → 0 < length s → readTrace w (suc n) s ≡ unlessRefused (recordAt w s) (readTrace w n (behind s))
    unfolding readTrace
    read-next n h = rw (head w s h)

    pub read-on : (left : ℕ) → 0 < left → recordRefusal w s ≡ 0 → readTrace w left s ≡ readTrace w (left - 1) (behind s)
    read-on left more e =
        let rest = readTrace w (left - 1) (behind s) in
        let one-more : left ≡ suc (left - 1) = omega arith in
        ap (λ n. readTrace w n s) one-more
        ∙ read-next (left - 1) (whole w s e).starts
        ∙ either w s e (λ r. unlessRefused r rest ≡ rest) (λ k. refl) (λ k. refl)

    -- a flaw is told however many are to go
    pub read-refused : (left : ℕ) → (recordRefusal w s ≡ 0 → ⊥) → readTrace w left s ≡ refusedRecord (recordRefusal w s)
    unfolding readTrace
    read-refused zero f = record-none w s f
    read-refused (suc left) f = rw (record-none w s f)

    pub read-stop : (left : ℕ) (r : Refusal) → refusalNumber r ≡ recordRefusal w s → refusedRecord (refusalNumber r) ≡ readTrace w left s
    read-stop left r e = rw e (sym (read-refused left (λ z. refusal-positive r (e ∙ z))))

    pub read-here : (left : ℕ) → left ≡ 0 → readTrace w left s ≡ recordAt w s
    unfolding readTrace
    read-here left z = rw z

  -- ---- reading by number is reading in the list
  abbrev pub nth : ℕ → List Record → Record
  nth n [] = refusedRecord 9
  nth zero (r ∷ rs) = r
  nth (suc n) (r ∷ rs) = unlessRefused r (nth n rs)

  read-none : (n : ℕ) → readTrace w n [] ≡ refusedRecord 9
  unfolding readTrace recordAt recordRefusal refusal
  read-none zero = refl
  read-none (suc n) = refl

  pub read-at : (n : ℕ) (s : List ℕ) → readTrace w n s ≡ nth n (records w s)
  unfolding readTrace
  read-at n [] = rw (records-out [] refl) (read-none n)
  read-at zero (x ∷ t) = sym (ap (nth zero) (records-in (x ∷ t) (omega arith)))
  read-at (suc n) (x ∷ t) =
      read-next (x ∷ t) n (omega arith)
      ∙ ap (unlessRefused (recordAt w (x ∷ t))) (read-at n (behind (x ∷ t)))
      ∙ sym (ap (nth (suc n)) (records-in (x ∷ t) (omega arith)))

  -- ---- records that can be read, written one behind the other
  pub kept : (rs : List Record) → All (Sound w) rs → records w (traceBytes w rs) ≡ rs
  unfolding traceBytes
  kept [] a = records-out [] refl
  kept (r ∷ rs) a =
      let f = front w r (traceBytes w rs) (All-head (Sound w) r rs a) in
      records-in (recordBytes w r ++ traceBytes w rs) f.some ∙ rw (f.at, f.behind) (ap (λ q. r ∷ q) (kept rs (All-tail (Sound w) r rs a)))

  nth-sound : (rs : List Record) (n : ℕ) → All (Sound w) rs → nth n rs ≡ get_or rs n (refusedRecord 9)
  nth-sound [] n a = refl
  nth-sound (r ∷ rs) zero a = refl
  nth-sound (eventRecord k l c i v ∷ rs) (suc n) a = nth-sound rs n (All-tail (Sound w) (eventRecord k l c i v) rs a)
  nth-sound (lastRecord k s m ∷ rs) (suc n) a = nth-sound rs n (All-tail (Sound w) (lastRecord k s m) rs a)
  nth-sound (refusedRecord m ∷ rs) (suc n) a = absurd (All-head (Sound w) (refusedRecord m) rs a)

  pub read-written : (rs : List Record) (n : ℕ) → All (Sound w) rs → readTrace w n (traceBytes w rs) ≡ get_or rs n (refusedRecord 9)
  read-written rs n a = read-at n (traceBytes w rs) ∙ ap (nth n) (kept rs a) ∙ nth-sound rs n a

  -- ---- so many bytes have records of which the last is the only one that is no event
  pub ended-length : (rs : List Record) → badRecord rs ≡ 0 → endsOnce rs ≡ true → length (traceBytes w rs) ≡ (length rs - 1) * (2 + 3 * w) + (2 + w)
  unfolding badRecord endsOnce traceBytes
  ended-length [] b e = cc
  ended-length (eventRecord k l c i v ∷ []) b e = cc
  ended-length (eventRecord k l c i v ∷ r ∷ rs) b e =
      let e1 : length (eventRecord k l c i v ∷ r ∷ rs) - 1 ≡ suc (length rs) = omega arith in
      let e2 : length (r ∷ rs) - 1 ≡ length rs = omega arith in
      let go : length (traceBytes w (r ∷ rs)) ≡ length rs * (2 + 3 * w) + (2 + w) = rw e2 at (ended-length (r ∷ rs) b e) in
      rw (e1, suc-mul (length rs) (2 + 3 * w))
      (omega (arith, go, length-append (recordBytes w (eventRecord k l c i v)) (traceBytes w (r ∷ rs)), event-bytes w k l c i v))
  ended-length (lastRecord k s n ∷ []) b e = omega (arith, length-append (recordBytes w (lastRecord k s n)) [], last-bytes w k s n)
  ended-length (lastRecord k s n ∷ r ∷ rs) b e = cc
  ended-length (refusedRecord n ∷ rs) b e = cc
