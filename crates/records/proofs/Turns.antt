-- Laws of converting record by record: what is left to write, how long it is, and whether a field is too large.
use Rattle.std.proofs.Common.{◌≡◌, refl, sym, ◌∙◌, ap, true, false, ◌||◌, List, ◌++◌, ℕ, ◌+◌, ◌*◌, ◌-◌, ◌/◌, ◌<◌, ◌≤◌, arith, length, get_or, length-append}
use Rattle.std.proofs.lemmas.Nat.{div-mul-add}
use Rattle.std.proofs.Math.Nat.{mul-le-mul_left}
use Rattle.lexical.specs.Buffer.{stored, Written}
use Rattle.lexical.proofs.Stores.{stores, same}
use Rattle.rules.specs.Trace.{wide, Record, recordLength, recordRefusal, recordAt, recordBytes, traceBytes}
use Rattle.records.specs.Records.{records, badRecord, traceRefusal}
use Rattle.records.specs.Conversion.{isOver, someOver}
use Rattle.records.specs.Answer.{bytesOf}
use Rattle.records.specs.declared.reader.Width.{Width}
use Rattle.records.proofs.Fields.{few, are-bytes}
use Rattle.records.proofs.Records.{either, event-size, last-size, event-bytes, last-bytes}
use Rattle.records.proofs.Walks.{behind, records-in, records-out, no-flaw, none-on}
use Rattle.records.proofs.Conversion.{none-bad, own-length, converted-length}

-- ---- records with fields of w bytes, to be written with fields of v bytes
module _ (v w : ℕ) where
  abbrev pub left : List ℕ → List ℕ
  left s = traceBytes v (records w s)

  module _ (s : List ℕ) (h : 0 < length s) (sound : badRecord (records w s) ≡ 0) where
    one-more : left s ≡ recordBytes v (recordAt w s) ++ left (behind w s)
    unfolding traceBytes
    one-more = ap (traceBytes v) (records-in w s h)

    -- a record has the length of its kind
    record-room : length (recordBytes v (recordAt w s)) ≡ recordLength v (get_or s 0 0)
    record-room =
        either w s (no-flaw w s h sound) (λ r. length (recordBytes v r) ≡ recordLength v (get_or s 0 0))
        (λ k. event-bytes v _ _ _ _ _ ∙ sym (event-size v (get_or s 0 0) k))
        (λ k. last-bytes v _ _ _ ∙ sym (last-size v (get_or s 0 0) k))

    more-left : length (left s) ≡ length (recordBytes v (recordAt w s)) + length (left (behind w s))
    more-left = ap length one-more ∙ length-append (recordBytes v (recordAt w s)) (left (behind w s))

  -- where the walk stands: what is left, written from here on, makes the whole
  pub record Stands (trace old out rest : List ℕ) (put : ℕ) : Type 0 where
    pub none : badRecord (records w rest) ≡ 0
    pub size : length out ≡ length old
    pub end : put + length (left rest) ≡ length (left trace)
    pub bytes : stored out put (left rest) ≡ stored old 0 (left trace)

  pub begins : (trace old : List ℕ) → traceRefusal w trace ≡ 0 → Stands trace old old trace 0
  begins trace old e = record { none = none-bad w trace e; size = refl; end = omega arith; bytes = refl }

  module _ {trace old out rest : List ℕ} {put : ℕ} (i : Stands trace old out rest put) where
    module _ (h : 0 < length rest) where
      pub stands-flaw : recordRefusal w rest ≡ 0
      stands-flaw = no-flaw w rest h i.none

      pub room : length (left trace) ≤ length old → put + length (recordBytes v (recordAt w rest)) ≤ length out
      room r = omega (arith, i.size, i.end, more-left rest h i.none)

      pub put-fits : length (left trace) ≤ length old → put + recordLength v (get_or rest 0 0) ≤ length out
      put-fits r = omega (arith, room r, record-room rest h i.none)

      pub goes-on : {new next : List ℕ} (r : Record) (m : ℕ) → r ≡ recordAt w rest → next ≡ behind w rest → m ≡ recordLength v (get_or rest 0 0)
          → Written out put (recordBytes v r) new → Stands trace old new next (put + m)
      goes-on {new} {next} r m e en em t =
          let g = record-room rest h i.none in
          record {
            none = rw en (none-on w rest h i.none);
            size = same t ∙ i.size;
            end = rw (en, em) (omega (arith, more-left rest h i.none, g, i.end));
            bytes = rw en (ap (λ o. stored o (put + m) (left (behind w rest))) t.is
                ∙ stores out put (put + m) (recordBytes v r) (left (behind w rest)) (omega (arith, em, ap (λ q. length (recordBytes v q)) e, g))
                ∙ ap (stored out put) (ap (λ q. recordBytes v q ++ left (behind w rest)) e ∙ sym (one-more rest h i.none))
                ∙ i.bytes);
          }

    pub done : length rest ≡ 0 → Written old 0 (left trace) out
    unfolding stored traceBytes
    done h = record { is = sym (ap (λ rs. stored out put (traceBytes v rs)) (records-out w rest h)) ∙ i.bytes }

-- ---- the length of a trace that is taken, with fields of another width: by the number of its events
pub record Lengths (w v : ℕ) (s : List ℕ) : Type 0 where
  pub is : (length s / (2 + 3 * w)) * (2 + 3 * v) + (2 + v) ≡ length (traceBytes v (records w s))
  pub small : (length s / (2 + 3 * w)) * (2 + 3 * v) + (2 + v) ≤ 2 * length s

pub lengths : (from to : Width) (s : List ℕ) → ((i : ℕ) → get_or s i 0 < 256) → traceRefusal (bytesOf from) s ≡ 0 → Lengths (bytesOf from) (bytesOf to) s
lengths from to s b e =
    let w = bytesOf from in
    let v = bytesOf to in
    let n = length (records w s) - 1 in
    let own = own-length w s e (are-bytes s b) in
    let lo = few from in
    let hi = few to in
    let events : length s / (2 + 3 * w) ≡ n = ap (λ m. m / (2 + 3 * w)) own ∙ div-mul-add n (2 + 3 * w) (2 + w) (omega arith) in
    let m : n * (2 + 3 * v) ≤ n * (2 * (2 + 3 * w)) = mul-le-mul_left n (omega arith) in
    let q : n * (2 * (2 + 3 * w)) ≡ 2 * (n * (2 + 3 * w)) = omega arith in
    record {
      is = ap (λ k. k * (2 + 3 * v) + (2 + v)) events ∙ sym (converted-length w s e v);
      small = rw events (omega (arith, m, q, own));
    }

-- ---- fields above 65,535
module _ (s : List ℕ) (h : 0 < length s) where
  over-by : someOver (records wide s) ≡ (isOver (recordAt wide s) || someOver (records wide (behind wide s)))
  unfolding someOver
  over-by = ap someOver (records-in wide s h)

  pub over-here : isOver (recordAt wide s) ≡ true → someOver (records wide s) ≡ true
  over-here e = over-by ∙ rw e

  pub over-on : isOver (recordAt wide s) ≡ false → someOver (records wide s) ≡ someOver (records wide (behind wide s))
  over-on e = over-by ∙ rw e

pub over-out : (s : List ℕ) → length s ≡ 0 → someOver (records wide s) ≡ false
unfolding someOver
over-out s h = ap someOver (records-out wide s h)
