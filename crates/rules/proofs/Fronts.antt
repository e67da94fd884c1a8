-- Laws of the front of a text: the run of a class in it, and its last byte.
use Rattle.std.proofs.Common.{◌≡◌, refl, ap, Bool, List, [], ◌∷◌, ℕ, zero, suc, ◌<◌, ◌≤◌, arith, length, get_or, take, drop}
use Rattle.lexical.specs.Text.{run}
use Rattle.lexical.proofs.Cases.{split}

-- a run that ends within the front
pub run-front : (f : ℕ → Bool) (n : ℕ) (s : List ℕ) → run f s ≤ n → run f (take n s) ≡ run f s
unfolding run
run-front f zero s h = omega arith
run-front f (suc n) [] h = refl
run-front f (suc n) (x ∷ xs) h = split (f x) (λ t. let u = rw t at h in simp t (ap suc (run-front f n xs (omega arith)))) (λ t. simp t)

-- so many bytes of a run, where the front has so many
pub run-least : (f : ℕ → Bool) (m n : ℕ) (s : List ℕ) → m ≤ run f s → m ≤ n → m ≤ run f (take n s)
unfolding run
run-least f zero n s h l = omega arith
run-least f (suc m) n [] h l = absurd (omega arith)
run-least f (suc m) zero (x ∷ xs) h l = absurd (omega arith)
run-least f (suc m) (suc n) (x ∷ xs) h l =
    split (f x) (λ t. let u = rw t at h in let r = run-least f m n xs (omega arith) (omega arith) in simp t (omega arith)) (λ t. let u = rw t at h in absurd (omega arith))

-- the last byte; d, where there is none
abbrev pub lastOr : ℕ → List ℕ → ℕ
lastOr d [] = d
lastOr d (x ∷ xs) = lastOr x xs

-- the bytes from an index on have the same
pub last-behind : (n c d : ℕ) (s : List ℕ) → n < length s → lastOr c (drop n s) ≡ lastOr d s
last-behind n c d [] h = absurd (omega arith)
last-behind zero c d (x ∷ xs) h = refl
last-behind (suc n) c d (x ∷ xs) h = last-behind n c x xs (omega arith)

-- of a front that has a byte
pub last-front : (n d : ℕ) (s : List ℕ) → n < length s → lastOr d (take (suc n) s) ≡ get_or s n 0
last-front n d [] h = absurd (omega arith)
last-front zero d (x ∷ xs) h = refl
last-front (suc n) d (x ∷ xs) h = last-front n x xs (omega arith)
