-- Laws of numbers in fields of w bytes, low first: how long they are, that what is written is read back where it fits, and that what is read from bytes is
-- written back.
use Rattle.std.proofs.Common.{◌≡◌, refl, ap, true, List, [], ◌∷◌, ◌++◌, ℕ, zero, suc, ◌+◌, ◌*◌, ◌/◌, ◌%◌, ◌<◌, ◌≤◌, arith, ltb, length, get_or, take, drop, ltb-true, lt-ltb}
use Rattle.std.proofs.lemmas.Bool.{and_parts}
use Rattle.std.specs.Prelude.{◌^◌}
use Rattle.lexical.specs.Name.{all}
use Rattle.rules.specs.Trace.{field, number}
use Rattle.records.specs.Answer.{bytesOf}
use Rattle.records.specs.Conversion.{areBytes}
use Rattle.records.specs.declared.reader.Width.{Width}
use Rattle.records.specs.declared.reader.Width.TheVariants.{Narrow, Wide}

-- a field has two bytes at least, and four at most
pub few : (width : Width) → (2 ≤ bytesOf width) × (bytesOf width ≤ 4)
few Narrow = (omega arith, omega arith)
few Wide = (omega arith, omega arith)

pub field-length : (w n : ℕ) → length (field w n) ≡ w
unfolding field
field-length zero n = refl
field-length (suc w) n = ap suc (field-length w (n / 256))

pub read-back : (w n : ℕ) (rest : List ℕ) → n < 256 ^ w → number w (field w n ++ rest) ≡ n
unfolding field number
read-back zero n rest h = omega arith
read-back (suc w) n rest h =
    let q : n / 256 < 256 ^ w = omega arith in
    let r = read-back w (n / 256) rest q in
    rw r (omega arith)

-- ---- bytes
pub are-bytes : (s : List ℕ) → ((i : ℕ) → get_or s i 0 < 256) → areBytes s ≡ true
unfolding all
are-bytes [] h = refl
are-bytes (x ∷ s) h = rw (lt-ltb x 256 (h 0)) (are-bytes s (λ i. h (suc i)))

byte-first : (x : ℕ) (s : List ℕ) → areBytes (x ∷ s) ≡ true → x < 256
unfolding all
byte-first x s b = ltb-true x 256 (and_parts (ltb x 256) (areBytes s) b).0

bytes-rest : (x : ℕ) (s : List ℕ) → areBytes (x ∷ s) ≡ true → areBytes s ≡ true
unfolding all
bytes-rest x s b = (and_parts (ltb x 256) (areBytes s) b).1

pub bytes-drop : (n : ℕ) (s : List ℕ) → areBytes s ≡ true → areBytes (drop n s) ≡ true
bytes-drop zero s b = b
bytes-drop (suc n) [] b = b
bytes-drop (suc n) (x ∷ s) b = bytes-drop n s (bytes-rest x s b)

pub write-back : (w : ℕ) (s : List ℕ) → areBytes s ≡ true → w ≤ length s → field w (number w s) ≡ take w s
unfolding field number
write-back zero s b h = refl
write-back (suc w) [] b h = absurd (omega arith)
write-back (suc w) (x ∷ s) b h =
    let small = byte-first x s b in
    let q : (x + 256 * number w s) / 256 ≡ number w s = omega arith in
    let r : (x + 256 * number w s) % 256 ≡ x = omega arith in
    rw (q, r) (ap (λ l. x ∷ l) (write-back w s (bytes-rest x s b) (omega arith)))

pub number-below : (w : ℕ) (s : List ℕ) → areBytes s ≡ true → number w s < 256 ^ w
unfolding number
number-below zero s b = omega arith
number-below (suc w) [] b = let r = number-below w [] b in omega arith
number-below (suc w) (x ∷ s) b =
    let small = byte-first x s b in
    let r = number-below w s (bytes-rest x s b) in
    omega arith
