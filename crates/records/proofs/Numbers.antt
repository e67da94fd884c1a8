-- Laws of a number in two or in four bytes, low first: what its bytes add up to, and which bytes it has.
use Rattle.std.proofs.Common.{◌≡◌, refl, List, [], ◌∷◌, ℕ, zero, suc, ◌+◌, ◌*◌, ◌/◌, ◌%◌, ◌^◌, ◌<◌, ◌≤◌, arith, add-zero, get_or, drop, drop-drop, get_or-drop}
use Rattle.rules.specs.Trace.{field, number}
use Rattle.records.proofs.Fields.{are-bytes, bytes-drop, number-below}

module _ (s : List ℕ) where
  -- the number of w + 1 bytes from j on
  number-in : (w j : ℕ) → number (suc w) (drop j s) ≡ get_or s j 0 + 256 * number w (drop (j + 1) s)
  unfolding number
  number-in w j = rw (get_or-drop j s 0 0, add-zero, drop-drop 1 j s)

  pub two-bytes : (j : ℕ) → get_or s j 0 + get_or s (j + 1) 0 * 256 ≡ number 2 (drop j s)
  unfolding number
  two-bytes j = rw (number-in 1 j, number-in 0 (j + 1)) (omega arith)

  pub four-bytes : (j : ℕ) → get_or s j 0 + get_or s (j + 1) 0 * 256 + get_or s (j + 2) 0 * 65536 + get_or s (j + 3) 0 * 16777216 ≡ number 4 (drop j s)
  unfolding number
  four-bytes j =
      let two : j + 1 + 1 ≡ j + 2 = omega arith in
      let three : j + 2 + 1 ≡ j + 3 = omega arith in
      rw (number-in 3 j, number-in 2 (j + 1), two, number-in 1 (j + 2), three, number-in 0 (j + 3)) (omega arith)

-- three bytes of bytes
pub three-bytes : (s : List ℕ) (w j : ℕ) → ((i : ℕ) → get_or s i 0 < 256) → w ≤ 3 → number w (drop j s) < 16777216
three-bytes s w j b h = most w h (number-below w (drop j s) (bytes-drop j s (are-bytes s b)))
  where
    most : (w : ℕ) {n : ℕ} → w ≤ 3 → n < 256 ^ w → n < 16777216
    most zero h l = omega arith
    most (suc zero) h l = omega arith
    most (suc (suc zero)) h l = omega arith
    most (suc (suc (suc zero))) h l = omega arith
    most (suc (suc (suc (suc w)))) h l = absurd (omega arith)

-- the lowest bytes of a number
pub two-lowest : (n : ℕ) → n % 256 ∷ n / 256 % 256 ∷ [] ≡ field 2 n
unfolding field
two-lowest n = refl

pub four-lowest : (n : ℕ) → n % 256 ∷ n / 256 % 256 ∷ n / 65536 % 256 ∷ n / 16777216 % 256 ∷ [] ≡ field 4 n
unfolding field
four-lowest n =
    let two : n / 256 / 256 ≡ n / 65536 = omega arith in
    let three : n / 256 / 256 / 256 ≡ n / 16777216 = omega arith in
    rw (three, two)
