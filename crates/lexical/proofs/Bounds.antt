-- How large a point of a text can be: its index is the index, its line at most one more, its column at most four for each byte and one. So no sum wraps
-- in a text of any size that memory holds. By induction on the index: one byte adds at most one line or four columns.
use Rattle.std.proofs.Common.{◌≡◌, ℕ, zero, suc, ◌+◌, ◌*◌, ◌^◌, ◌<◌, ◌≤◌, eqb, List, length, drop, refl, add-one, arith}
use Rattle.lexical.specs.Text.{byte, first}
use Rattle.lexical.specs.Line.{endsLine}
use Rattle.lexical.specs.Point.{tabReadings, nextLine, nextByte, skipByte, passed, pointAt}
use Rattle.lexical.specs.declared.event.Point.{Point}
use Rattle.lexical.proofs.Cases.{split}
use Rattle.lexical.proofs.Moves.{point-start, point-next}
use Rattle.lexical.proofs.Readings.{tab-most}

-- p can stand at the index i
pub record Fit (i : ℕ) (p : Point) : Type 0 where
  pub index-is : p.index ≡ i
  pub vs-is : p.vs ≡ 0
  pub first-line : 1 ≤ p.line
  pub line-below : p.line ≤ i + 1
  pub first-column : 1 ≤ p.column
  pub column-below : p.column ≤ 4 * i + 1

module _ (i : ℕ) (small : i < 2 ^ 61) (p : Point) (f : Fit i p) where
  line-fits : Fit (i + 1) (nextLine p)
  line-fits = record { index-is = omega arith; vs-is = refl; first-line = omega arith; line-below = omega arith; first-column = omega arith; column-below = omega arith }

  byte-fits : (n : ℕ) → n ≤ 4 → Fit (i + 1) (nextByte p n)
  byte-fits n h = record { index-is = omega arith; vs-is = refl; first-line = omega arith; line-below = omega arith; first-column = omega arith; column-below = omega arith }

  skip-fits : Fit (i + 1) (skipByte p)
  skip-fits = record { index-is = omega arith; vs-is = f.vs-is; first-line = omega arith; line-below = omega arith; first-column = omega arith; column-below = omega arith }

  passed-fits : (s : List ℕ) → Fit (i + 1) (passed p s)
  unfolding passed
  passed-fits s =
      split (endsLine s) (λ e. rw e line-fits)
      (λ e. split (eqb (first s) (byte "\r")) (λ r. rw (e, r) skip-fits)
      (λ r. split (eqb (first s) (byte "\t")) (λ t. rw (e, r, t) (byte-fits (tabReadings p.column) (tab-most p.column))) (λ t. rw (e, r, t) (byte-fits 1 (omega arith)))))

pub point-fits : (text : List ℕ) (i : ℕ) → i ≤ length text → i < 2 ^ 61 → Fit i (pointAt text i)
point-fits text zero h small =
    rw (point-start text) (record { index-is = refl; vs-is = refl; first-line = omega arith; line-below = omega arith; first-column = omega arith; column-below = omega arith })
point-fits text (suc i) h small =
    let n : pointAt text (suc i) ≡ passed (pointAt text i) (drop i text) = rw add-one at (point-next text i (omega arith)) in
    let q : Fit (suc i) (passed (pointAt text i) (drop i text)) = rw add-one at (passed-fits i (omega arith) (pointAt text i) (point-fits text i (omega arith) (omega arith)) (drop i text)) in
    rw n q
