-- Laws of what a trace stores in a buffer: fields, the records that consist of them, and a record that is placed.
use Rattle.std.proofs.Common.{◌≡◌, refl, sym, ◌∙◌, ap, true, false, List, [], ◌∷◌, ◌++◌, append_assoc, ℕ, suc, ◌+◌, ◌*◌, ◌≤◌, arith, leb, length, take, drop, set, drop-drop, le-leb}
use Rattle.std.proofs.lemmas.List.{length-set}
use lib.Seq.{sets-eq}
use borrow.Rule.Slice.PartMut.{put_mid}
use Rattle.lexical.specs.Buffer.{stored, Written}
use Rattle.lexical.proofs.Stores.{is-sets, single, second, stores, nothing-written, same}
use Rattle.rules.specs.Trace.{field, eventRecord, lastRecord, recordBytes}
use Rattle.records.specs.Writing.{placed}
use Rattle.records.proofs.Fields.{field-length}
use Rattle.records.proofs.Records.{event-bytes, last-bytes}

-- ---- fields
pub field-put : (l : List ℕ) (at w n : ℕ) {k : ℕ} {bs : List ℕ} → k ≡ w → at + w ≤ length l → bs ≡ field w n → Written l at (field w n) (put_mid at k l bs)
field-put l at w n {k} e h is =
    let f = field w n in
    let size = field-length w n in
    record {
      is = ap (put_mid at k l) is
          ∙ ap (λ rest. take at l ++ (f ++ rest)) (drop-drop k at l ∙ ap (λ j. drop (at + j) l) (e ∙ sym size))
          ∙ sym (append_assoc (take at l) f (drop (at + length f) l))
          ∙ sym (sets-eq f l at (omega (arith, size)))
          ∙ sym (is-sets l at f);
    }

-- a field at j, and then bytes behind it
behind : (l : List ℕ) (j w n : ℕ) (b : List ℕ) → stored (stored l j (field w n)) (j + w) b ≡ stored l j (field w n ++ b)
behind l j w n b = stores l j (j + w) (field w n) b (omega (arith, field-length w n))

-- ---- records, with fields of w bytes
module _ (w : ℕ) where
  -- what is stored for an event, one field behind the other
  event-stored : (l : List ℕ) (at kind line column index vs : ℕ)
      → set (stored (stored (stored (set l at kind) (at + 1) (field w line)) (at + 1 + w) (field w column)) (at + 1 + 2 * w) (field w index)) (at + 1 + 3 * w) vs
      ≡ stored l at (recordBytes w (eventRecord kind line column index vs))
  unfolding recordBytes
  event-stored l at kind line column index vs =
      let m = set l at kind in
      let m2 = stored m (at + 1) (field w line) in
      let m3 = stored m2 (at + 1 + w) (field w column) in
      let a : at + 1 + 2 * w ≡ at + 1 + w + w = omega arith in
      let b : at + 1 + 3 * w ≡ at + 1 + w + w + w = omega arith in
      rw (a, b)
      (single (stored m3 (at + 1 + w + w) (field w index)) (at + 1 + w + w + w) vs
      ∙ behind m3 (at + 1 + w + w) w index (vs ∷ [])
      ∙ behind m2 (at + 1 + w) w column (field w index ++ (vs ∷ []))
      ∙ behind m (at + 1) w line (field w column ++ (field w index ++ (vs ∷ [])))
      ∙ second l at kind (field w line ++ (field w column ++ (field w index ++ (vs ∷ [])))))

  last-stored : (l : List ℕ) (at kind stop n : ℕ) → set (stored (set l at kind) (at + 1) (field w stop)) (at + 1 + w) n ≡ stored l at (recordBytes w (lastRecord kind stop n))
  unfolding recordBytes
  last-stored l at kind stop n =
      single (stored (set l at kind) (at + 1) (field w stop)) (at + 1 + w) n
      ∙ behind (set l at kind) (at + 1) w stop (n ∷ [])
      ∙ second l at kind (field w stop ++ (n ∷ []))

  -- the same, by the buffer behind each field
  pub event-steps : {l l1 l2 l3 : List ℕ} {at : ℕ} (kind line column index vs : ℕ) → Written (set l at kind) (at + 1) (field w line) l1
      → Written l1 (at + 1 + w) (field w column) l2 → Written l2 (at + 1 + 2 * w) (field w index) l3
      → Written l at (recordBytes w (eventRecord kind line column index vs)) (set l3 (at + 1 + 3 * w) vs)
  event-steps {l} {l1} {l2} {l3} {at} kind line column index vs e1 e2 e3 = record { is = rw (e3.is, e2.is, e1.is) (event-stored l at kind line column index vs) }

  pub last-steps : {l l1 : List ℕ} {at : ℕ} (kind stop n : ℕ) → Written (set l at kind) (at + 1) (field w stop) l1 → Written l at (recordBytes w (lastRecord kind stop n)) (set l1 (at + 1 + w) n)
  last-steps {l} {l1} {at} kind stop n e = record { is = rw e.is (last-stored l at kind stop n) }

-- ---- bytes that are placed
module _ {old new : List ℕ} {at : ℕ} (bs : List ℕ) where
  pub placed-whole : at + length bs ≤ length old → Written old at (placed (length old) at bs) new → Written old at bs new
  unfolding placed
  placed-whole h w = rw (le-leb (at + length bs) (length old) h) at w

  pub placed-in : {n : ℕ} → length bs ≡ n → leb (at + n) (length old) ≡ true → Written old at bs new → Written old at (placed (length old) at bs) new
  unfolding placed
  placed-in e h w = rw (e, h) w

pub placed-not : {old : List ℕ} {at n : ℕ} (bs : List ℕ) → length bs ≡ n → leb (at + n) (length old) ≡ false → Written old at (placed (length old) at bs) old
unfolding placed
placed-not bs e h = rw (e, h) nothing-written

-- there is room for each field, since storing keeps the length
pub ruleset room_stays = (event-bytes, last-bytes, same, length-set)
