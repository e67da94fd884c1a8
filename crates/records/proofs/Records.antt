-- Laws of a record with fields of w bytes: how long it is, what stands at an index of a trace and what is wrong with it; one that is written is read back where it
-- fits, and one that is read is written back.
use Rattle.std.proofs.Common.{◌≡◌, refl, sym, ◌∙◌, ap, Bool, true, false, ◌||◌, List, [], ◌∷◌, ◌++◌, append-nil, append_assoc, ℕ, suc, ◌+◌, ◌*◌, ◌^◌, ◌<◌, ◌≤◌, arith, one-add, eqb, ltb, leb, length, get_or, take, drop, length-append, length-drop, drop-drop, drop_at, get_or-drop, take-add, eqb-true, ne_eqb, ltb-true, ltb-false, lt-ltb, le-ltb, leb-true, leb-false, le-leb}
use Rattle.std.proofs.lemmas.List.{drop_more}
use Rattle.std.proofs.lemmas.Bool.{or_parts}
use borrow.Author.Tests.{eqb-false, lt-leb}
use Rattle.lexical.specs.Text.{first}
use Rattle.lexical.proofs.Cases.{split}
use Rattle.lexical.proofs.Suffix.{first-in}
use Rattle.rules.specs.Search.{choose}
use Rattle.rules.specs.Refusal.{refusal}
use Rattle.rules.specs.Trace.{field, number, Record, eventRecord, lastRecord, refusedRecord, recordBytes, traceBytes, recordLength, recordRefusal, recordAt}
use Rattle.rules.specs.ReadBack.{Fits}
use Rattle.records.specs.Conversion.{areBytes}
use Rattle.records.proofs.Fields.{field-length, read-back, bytes-drop, write-back, number-below}

-- a record that can be read: its kind is one of those of its form, and its numbers fit
abbrev pub Sound : ℕ → Record → Type 0
Sound w (eventRecord kind l c i v) = (1 ≤ kind) × (kind ≤ 12) × Fits w (eventRecord kind l c i v)
Sound w (lastRecord kind s n) = (13 ≤ kind) × (kind ≤ 14) × Fits w (lastRecord kind s n)
Sound w (refusedRecord n) = ⊥

abbrev wrongKind : ℕ → Bool
wrongKind kind = eqb kind 0 || ltb 14 kind

-- ---- whether there are bytes
pub some-left : (s : List ℕ) → false ≡ eqb (length s) 0 → 0 < length s
some-left s e = let n = eqb-false (length s) 0 (sym e) in omega arith

pub none-left : (s : List ℕ) → true ≡ eqb (length s) 0 → length s ≡ 0
none-left s e = eqb-true (length s) 0 (sym e)

module _ (w : ℕ) where
  -- ---- lengths
  pub bytes-append : (a b : List Record) → traceBytes w (a ++ b) ≡ traceBytes w a ++ traceBytes w b
  unfolding traceBytes
  bytes-append [] b = refl
  bytes-append (r ∷ a) b = ap (λ s. recordBytes w r ++ s) (bytes-append a b) ∙ sym (append_assoc (recordBytes w r) (traceBytes w a) (traceBytes w b))

  pub one-record : (r : Record) → traceBytes w (r ∷ []) ≡ recordBytes w r
  unfolding traceBytes
  one-record r = append-nil (recordBytes w r)

  pub event-size : (kind : ℕ) → kind ≤ 12 → recordLength w kind ≡ 2 + 3 * w
  unfolding recordLength
  event-size kind h = simp (le-leb kind 12 h)

  pub last-size : (kind : ℕ) → 12 < kind → recordLength w kind ≡ 2 + w
  unfolding recordLength
  last-size kind h = simp (lt-leb kind 12 h)

  pub event-bytes : (kind l c i v : ℕ) → length (recordBytes w (eventRecord kind l c i v)) ≡ 2 + 3 * w
  unfolding recordBytes
  event-bytes kind l c i v = simp (length-append, field-length) (omega arith)

  pub last-bytes : (kind stop n : ℕ) → length (recordBytes w (lastRecord kind stop n)) ≡ 2 + w
  unfolding recordBytes
  last-bytes kind stop n = simp (length-append, field-length) (omega arith)

  -- ---- the record in front: what is wrong with it
  module _ (s : List ℕ) where
    pub flaw-out : length s ≡ 0 → recordRefusal w s ≡ 9
    unfolding recordRefusal refusal
    flaw-out h = rw h

    pub head : 0 < length s → first s ≡ get_or s 0 0
    head h = first-in s 0 h

    flaw-in : 0 < length s → recordRefusal w s ≡ choose (wrongKind (get_or s 0 0)) (λ _. 8) (λ _. choose (ltb (length s) (recordLength w (get_or s 0 0))) (λ _. 9) (λ _. 0))
    unfolding recordRefusal refusal
    flaw-in h = let some : eqb (length s) 0 ≡ false = ne_eqb (length s) 0 (λ z. omega arith) in rw (head h, some)

    pub flaw-kind : 0 < length s → wrongKind (get_or s 0 0) ≡ true → recordRefusal w s ≡ 8
    flaw-kind h e = flaw-in h ∙ rw e

    pub flaw-cut : 0 < length s → wrongKind (get_or s 0 0) ≡ false → length s < recordLength w (get_or s 0 0) → recordRefusal w s ≡ 9
    flaw-cut h e l = flaw-in h ∙ rw (e, lt-ltb (length s) (recordLength w (get_or s 0 0)) l)

    pub flaw-none : 0 < length s → wrongKind (get_or s 0 0) ≡ false → recordLength w (get_or s 0 0) ≤ length s → recordRefusal w s ≡ 0
    flaw-none h e l = flaw-in h ∙ rw (e, le-ltb (length s) (recordLength w (get_or s 0 0)) l)

  -- a record with nothing wrong
  pub record Whole (s : List ℕ) : Type 0 where
    pub starts : 0 < length s
    pub from : 1 ≤ get_or s 0 0
    pub to : get_or s 0 0 ≤ 14
    pub fits : recordLength w (get_or s 0 0) ≤ length s

  module _ (s : List ℕ) where
    pub whole : recordRefusal w s ≡ 0 → Whole s
    whole e =
        let kind = get_or s 0 0 in
        let h : 0 < length s = split (ltb 0 (length s)) (λ t. ltb-true 0 (length s) t) (λ t. let n = ltb-false 0 (length s) t in let z = flaw-out s (omega arith) in absurd (omega arith)) in
        split (wrongKind kind) (λ t. let z = flaw-kind s h t in absurd (omega arith))
        (λ t. split (ltb (length s) (recordLength w kind))
        (λ u. let z = flaw-cut s h t (ltb-true _ _ u) in absurd (omega arith))
        (λ u.
        let some = eqb-false kind 0 (or_parts (eqb kind 0) (ltb 14 kind) t).0 in
        record { starts = h; from = omega arith; to = ltb-false 14 kind (or_parts (eqb kind 0) (ltb 14 kind) t).1; fits = ltb-false _ _ u }))

    -- ---- the record of a flaw, and with none that of an event or a last one
    pub record-none : (recordRefusal w s ≡ 0 → ⊥) → recordAt w s ≡ refusedRecord (recordRefusal w s)
    unfolding recordAt
    record-none h = rw (ne_eqb (recordRefusal w s) 0 h)

    abbrev pub content : Record
    content =
        choose (leb (first s) 12)
        (λ _. eventRecord (first s) (number w (drop 1 s)) (number w (drop (1 + w) s)) (number w (drop (1 + 2 * w) s)) (get_or s (1 + 3 * w) 0))
        (λ _. lastRecord (first s) (number w (drop 1 s)) (get_or s (1 + w) 0))

    pub record-whole : recordRefusal w s ≡ 0 → recordAt w s ≡ content
    unfolding recordAt
    record-whole e = rw e

    abbrev pub eventAt : Record
    eventAt = eventRecord (get_or s 0 0) (number w (drop 1 s)) (number w (drop (1 + w) s)) (number w (drop (1 + 2 * w) s)) (get_or s (1 + 3 * w) 0)

    abbrev pub lastAt : Record
    lastAt = lastRecord (get_or s 0 0) (number w (drop 1 s)) (get_or s (1 + w) 0)

    module _ (e : recordRefusal w s ≡ 0) where
      pub event-at : get_or s 0 0 ≤ 12 → recordAt w s ≡ eventAt
      event-at h = record-whole e ∙ rw (head s (whole e).starts, le-leb (get_or s 0 0) 12 h)

      pub last-at : 12 < get_or s 0 0 → recordAt w s ≡ lastAt
      last-at h = record-whole e ∙ rw (head s (whole e).starts, lt-leb (get_or s 0 0) 12 h)

      pub event-fits : get_or s 0 0 ≤ 12 → 2 + 3 * w ≤ length s
      event-fits h = omega (arith, (whole e).fits, event-size (get_or s 0 0) h)

      pub last-fits : 12 < get_or s 0 0 → 2 + w ≤ length s
      last-fits h = omega (arith, (whole e).fits, last-size (get_or s 0 0) h)

      pub either : (P : Record → Type 0) → (get_or s 0 0 ≤ 12 → P eventAt) → (12 < get_or s 0 0 → P lastAt) → P (recordAt w s)
      either P a b =
          split (leb (get_or s 0 0) 12)
          (λ k. let h = leb-true (get_or s 0 0) 12 k in rw (event-at h) (a h))
          (λ k. let h = leb-false (get_or s 0 0) 12 k in rw (last-at h) (b h))

  -- ---- a record that is written, with rest behind it, is read
  pub record Front (r : Record) (s rest : List ℕ) : Type 0 where
    pub some : 0 < length s
    pub at : recordAt w s ≡ r
    pub behind : drop (recordLength w (get_or s 0 0)) s ≡ rest

  -- a byte, seen from what stands behind n others
  module _ (s : List ℕ) (n v : ℕ) (rest : List ℕ) (e : drop n s ≡ v ∷ rest) where
    byte-there : get_or s n 0 ≡ v
    byte-there =
        let z : n ≡ n + 0 = omega arith in
        ap (λ m. get_or s m 0) z ∙ sym (get_or-drop n s 0 0) ∙ rw e

    behind-byte : drop (n + 1) s ≡ rest
    behind-byte = rw (← drop-drop 1 n s, e)

  -- an event
  module _ (kind l c i v : ℕ) (rest : List ℕ) where
    abbrev event : List ℕ
    event = kind ∷ (field w l ++ (field w c ++ (field w i ++ (v ∷ rest))))

    event-then : recordBytes w (eventRecord kind l c i v) ++ rest ≡ event
    unfolding recordBytes
    event-then = simp append_assoc

    event-length : length event ≡ 2 + 3 * w + length rest
    event-length = omega (arith, ap length event-then, length-append (recordBytes w (eventRecord kind l c i v)) rest, event-bytes kind l c i v)

    behind-line : drop (1 + w) event ≡ field w c ++ (field w i ++ (v ∷ rest))
    behind-line = rw (one-add w) (drop_at (field w l) (field w c ++ (field w i ++ (v ∷ rest))) w (field-length w l))

    behind-column : drop (1 + 2 * w) event ≡ field w i ++ (v ∷ rest)
    behind-column =
        let e : 1 + 2 * w ≡ (1 + w) + w = omega arith in
        rw (e, ← drop-drop w (1 + w) event, behind-line) (drop_at (field w c) (field w i ++ (v ∷ rest)) w (field-length w c))

    behind-index : drop (1 + 3 * w) event ≡ v ∷ rest
    behind-index =
        let e : 1 + 3 * w ≡ (1 + 2 * w) + w = omega arith in
        rw (e, ← drop-drop w (1 + 2 * w) event, behind-column) (drop_at (field w i) (v ∷ rest) w (field-length w i))

    event-front : Sound w (eventRecord kind l c i v) → Front (eventRecord kind l c i v) event rest
    event-front s =
        let n = event-length in
        let size = event-size kind s.1 in
        let right : wrongKind kind ≡ false = rw (ne_eqb kind 0 (λ z. omega (arith, s.0)), le-ltb 14 kind (omega (arith, s.1))) in
        let none : recordRefusal w event ≡ 0 = flaw-none event (omega arith) right (omega arith) in
        let e : 2 + 3 * w ≡ 1 + 3 * w + 1 = omega arith in
        record {
          some = omega arith;
          at = event-at event none s.1
              ∙ rw (
                behind-line,
                behind-column,
                byte-there event (1 + 3 * w) v rest behind-index,
                read-back w l (field w c ++ (field w i ++ (v ∷ rest))) s.2.0,
                read-back w c (field w i ++ (v ∷ rest)) s.2.1,
                read-back w i (v ∷ rest) s.2.2,
              );
          behind = rw (size, e, behind-byte event (1 + 3 * w) v rest behind-index);
        }

  -- a last record
  module _ (kind stop n : ℕ) (rest : List ℕ) where
    abbrev last : List ℕ
    last = kind ∷ (field w stop ++ (n ∷ rest))

    last-then : recordBytes w (lastRecord kind stop n) ++ rest ≡ last
    unfolding recordBytes
    last-then = simp append_assoc

    last-length : length last ≡ 2 + w + length rest
    last-length = omega (arith, ap length last-then, length-append (recordBytes w (lastRecord kind stop n)) rest, last-bytes kind stop n)

    behind-stop : drop (1 + w) last ≡ n ∷ rest
    behind-stop = rw (one-add w) (drop_at (field w stop) (n ∷ rest) w (field-length w stop))

    last-front : Sound w (lastRecord kind stop n) → Front (lastRecord kind stop n) last rest
    last-front s =
        let m = last-length in
        let size = last-size kind s.0 in
        let right : wrongKind kind ≡ false = rw (ne_eqb kind 0 (λ z. omega (arith, s.0)), le-ltb 14 kind s.1) in
        let none : recordRefusal w last ≡ 0 = flaw-none last (omega arith) right (omega arith) in
        let e : 2 + w ≡ 1 + w + 1 = omega arith in
        record {
          some = omega arith;
          at = last-at last none s.0 ∙ rw (byte-there last (1 + w) n rest behind-stop, read-back w stop (n ∷ rest) s.2);
          behind = rw (size, e, behind-byte last (1 + w) n rest behind-stop);
        }

  pub front : (r : Record) (rest : List ℕ) → Sound w r → Front r (recordBytes w r ++ rest) rest
  front (eventRecord kind l c i v) rest s = rw (event-then kind l c i v rest) (event-front kind l c i v rest s)
  front (lastRecord kind stop n) rest s = rw (last-then kind stop n rest) (last-front kind stop n rest s)
  front (refusedRecord n) rest s = absurd s

  -- ---- a record that is read can be read, and is written back
  module _ (s : List ℕ) (b : areBytes s ≡ true) where
    below : (n : ℕ) → number w (drop n s) < 256 ^ w
    below n = number-below w (drop n s) (bytes-drop n s b)

    there : (n : ℕ) → n + w ≤ length s → field w (number w (drop n s)) ≡ take w (drop n s)
    there n h = write-back w (drop n s) (bytes-drop n s b) (rw length-drop (omega arith))

    byte : (n : ℕ) → n < length s → get_or s n 0 ∷ [] ≡ take 1 (drop n s)
    byte n h = rw (drop_more s n 0 h)

    take-front : (n : ℕ) → 0 < length s → take (suc n) s ≡ get_or s 0 0 ∷ take n (drop 1 s)
    take-front n h = ap (take (suc n)) (drop_more s 0 0 h)

    join : (i n m : ℕ) → take n (drop i s) ++ take m (drop (i + n) s) ≡ take (n + m) (drop i s)
    join i n m = ap (λ t. take n (drop i s) ++ take m t) (sym (drop-drop n i s)) ∙ sym (take-add n m (drop i s))

    module _ (e : recordRefusal w s ≡ 0) where
      pub sound : Sound w (recordAt w s)
      sound =
          let i = whole s e in
          either s e (Sound w) (λ h. (i.from, h, (below 1, below (1 + w), below (1 + 2 * w)))) (λ h. (h, i.to, below 1))

      event-back : get_or s 0 0 ≤ 12 → recordBytes w (eventAt s) ≡ take (recordLength w (get_or s 0 0)) s
      unfolding recordBytes
      event-back h =
          let f = event-fits s e h in
          let two : 1 + 2 * w ≡ 1 + w + w = omega arith in
          let three : 1 + 3 * w ≡ 1 + w + w + w = omega arith in
          let all : 2 + 3 * w ≡ suc (w + (w + (w + 1))) = omega arith in
          rw (event-size (get_or s 0 0) h, all, two, three, take-front (w + (w + (w + 1))) (omega arith))
          (ap (λ t. get_or s 0 0 ∷ t)
          (rw (there 1 (omega arith), there (1 + w) (omega arith), there (1 + w + w) (omega arith), byte (1 + w + w + w) (omega arith))
          (rw (join (1 + w + w) w 1, join (1 + w) w (w + 1), join 1 w (w + (w + 1))))))

      last-back : 12 < get_or s 0 0 → recordBytes w (lastAt s) ≡ take (recordLength w (get_or s 0 0)) s
      unfolding recordBytes
      last-back h =
          let f = last-fits s e h in
          let all : 2 + w ≡ suc (w + 1) = omega arith in
          rw (last-size (get_or s 0 0) h, all, take-front (w + 1) (omega arith))
          (ap (λ t. get_or s 0 0 ∷ t) (rw (there 1 (omega arith), byte (1 + w) (omega arith)) (rw (join 1 w 1))))

      pub back : recordBytes w (recordAt w s) ≡ take (recordLength w (get_or s 0 0)) s
      back = either s e (λ r. recordBytes w r ≡ take (recordLength w (get_or s 0 0)) s) event-back last-back

-- what is known of a record with nothing wrong
pub ruleset whole_there = (whole, event-fits, last-fits)
