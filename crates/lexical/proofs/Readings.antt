-- A byte is passed by its readings: one reading after the other leads to the point past the byte. Only a tab is read more than once; each of its readings
-- but the last moves the column by one, so that one reading fewer is left, and the last moves the index.
use Rattle.std.proofs.Common.{◌≡◌, ℕ, zero, suc, ◌+◌, ◌-◌, ◌^◌, ◌<◌, ◌≤◌, false, eqb, List, ◌∷◌, sym, refl, ap, ◌∙◌, arith, ne_eqb, eqb-true}
use Rattle.lexical.specs.Text.{byte, first}
use Rattle.lexical.specs.Line.{endsLine}
use Rattle.lexical.specs.Point.{plus, point, tabReadings, tabRead, actionAt, nextByte, nextReading, moved, passed, readings, readOn}
use Rattle.lexical.specs.declared.event.Point.{Point}
use Rattle.lexical.proofs.Cases.{split}

tab-no-ending : (vs : ℕ) → eqb (tabRead vs) (byte "\n") ≡ false
unfolding tabRead
tab-no-ending vs = split (eqb vs 0) (λ h. rw h) (λ h. rw h)

-- a column further, one reading fewer is left
tab-less : (c n : ℕ) → tabReadings c ≡ suc (suc n) → 1 ≤ c → c + 1 < 2 ^ 64 → tabReadings (plus c 1) ≡ suc n
unfolding tabReadings
tab-less c n e l h = let w : plus c 1 ≡ c + 1 = omega arith in rw w (omega arith)

module _ (p : Point) (xs : List ℕ) where
  tab-last : tabReadings p.column ≡ 1 → moved p (actionAt p (byte "\t" ∷ xs)) ≡ nextByte p 1
  unfolding moved actionAt
  tab-last e = simp (e, tab-no-ending p.vs)

  tab-step : (n : ℕ) → tabReadings p.column ≡ suc (suc n) → moved p (actionAt p (byte "\t" ∷ xs)) ≡ nextReading p
  unfolding moved actionAt
  tab-step n e = let more : eqb (suc (suc n)) 1 ≡ false = ne_eqb (suc (suc n)) 1 (λ z. omega arith) in rw (e, more)

-- a tab with n readings more after this one
tab-on : (n : ℕ) (p : Point) (xs : List ℕ) → tabReadings p.column ≡ suc n → 1 ≤ p.column → p.column + suc n < 2 ^ 64
    → readOn (suc n) p (byte "\t" ∷ xs) ≡ nextByte p (suc n)
unfolding readOn
tab-on zero p xs e l h = tab-last p xs e
tab-on (suc n) p xs e l h =
    let w : plus p.column 1 ≡ p.column + 1 = omega arith in
    let sum : plus (plus p.column 1) (suc n) ≡ plus p.column (suc (suc n)) = omega arith in
    ap (λ q. readOn (suc n) q (byte "\t" ∷ xs)) (tab-step p xs n e)
    ∙ tab-on n (nextReading p) xs (tab-less p.column n e l (omega arith)) (omega arith) (omega arith)
    ∙ ap (λ k. point p.line k (plus p.index 1) 0) sum

pub tab-some : (c : ℕ) → tabReadings c ≡ suc (tabReadings c - 1)
unfolding tabReadings
tab-some c = omega arith

pub tab-most : (c : ℕ) → tabReadings c ≤ 4
unfolding tabReadings
tab-most c = omega arith

read-once : (p : Point) (s : List ℕ) → readOn 1 p s ≡ moved p (actionAt p s)
unfolding readOn
read-once p s = refl

-- any other byte is read once
once : (p : Point) (x : ℕ) (xs : List ℕ) → eqb x (byte "\t") ≡ false → moved p (actionAt p (x ∷ xs)) ≡ passed p (x ∷ xs)
unfolding moved actionAt passed endsLine
once p x xs t =
    split (eqb x (byte "\r"))
    (λ r. rw (eqb-true x (byte "\r") r) (split (eqb (first xs) (byte "\n")) (λ h. simp h) (λ h. simp h)))
    (λ r. split (eqb x (byte "\n")) (λ h. simp (t, r, h)) (λ h. simp (t, r, h)))

tab-passed : (p : Point) (xs : List ℕ) → passed p (byte "\t" ∷ xs) ≡ nextByte p (tabReadings p.column)
unfolding passed endsLine
tab-passed p xs = refl

-- all readings of a byte lead past it; columns count from 1, and stay far below the largest number
pub by-readings : (p : Point) (x : ℕ) (xs : List ℕ) → 1 ≤ p.column → p.column + 4 < 2 ^ 64
    → readOn (readings p.column (x ∷ xs)) p (x ∷ xs) ≡ passed p (x ∷ xs)
unfolding readings
by-readings p x xs l h =
    split (eqb x (byte "\t"))
    (λ t.
    rw (eqb-true x (byte "\t") t)
    (let n = tabReadings p.column - 1 in
    let e = tab-some p.column in
    let m = tab-most p.column in
    ap (λ k. readOn k p (byte "\t" ∷ xs)) e
    ∙ tab-on n p xs e l (omega arith)
    ∙ ap (λ k. nextByte p k) (sym e)
    ∙ sym (tab-passed p xs)))
    (λ t. simp t (read-once p (x ∷ xs) ∙ once p x xs t))
