-- Laws of points: what moving does at an index of a text, by the byte there and the one after it.
use Rattle.std.proofs.Common.{◌≡◌, ℕ, zero, suc, ◌+◌, ◌-◌, ◌<◌, ◌≤◌, min, eqb, ltb, List, length, get_or, drop, sym, refl, ap, ◌∙◌, add-zero, suc-add, zero-add, arith, ltb-false, ltb-true}
use Rattle.std.proofs.lemmas.List.{drop_all, drop_more}
use Rattle.lexical.specs.Text.{byte, pick, first}
use Rattle.lexical.specs.Line.{endsLine}
use Rattle.lexical.specs.Point.{tabReadings, tabRead, lastReading, earlierReading, skipped, noByte, actionAt, nextLine, nextByte, skipByte, passed, movedBy, start, pointAt}
use Rattle.lexical.specs.declared.event.Point.{Point}
use Rattle.lexical.proofs.Cases.{split}

module _ (p : Point) (s : List ℕ) (i : ℕ) where
  pub action-in : i < length s
      → actionAt p (drop i s)
      ≡ pick (eqb (get_or s i 0) (byte "\r")) (pick (eqb (first (drop (i + 1) s)) (byte "\n")) skipped (lastReading (byte "\n")))
      (pick (eqb (get_or s i 0) (byte "\t"))
      (pick (eqb (tabReadings p.column) 1) (lastReading (tabRead p.vs)) (earlierReading (tabRead p.vs)))
      (lastReading (get_or s i 0)))
  unfolding actionAt
  action-in h = rw (drop_more s i 0 h)

  pub action-out : length s ≤ i → actionAt p (drop i s) ≡ noByte
  unfolding actionAt
  action-out h = rw (drop_all i s h)

  pub passed-in : i < length s
      → passed p (drop i s)
      ≡ pick (endsLine (drop i s)) (nextLine p)
      (pick (eqb (get_or s i 0) (byte "\r")) (skipByte p)
      (pick (eqb (get_or s i 0) (byte "\t")) (nextByte p (tabReadings p.column)) (nextByte p 1)))
  unfolding passed
  passed-in h = rw (drop_more s i 0 h)

  -- n bytes on from i, past the byte at i
  pub moved-in : (n : ℕ) → i < length s → movedBy (suc n) p (drop i s) ≡ movedBy n (passed p (drop i s)) (drop (i + 1) s)
  unfolding movedBy
  moved-in n h = rw (drop_more s i 0 h)

  pub moved-out : (n : ℕ) → length s ≤ i → movedBy n p (drop i s) ≡ p
  unfolding movedBy
  moved-out zero h = refl
  moved-out (suc n) h = rw (drop_all i s h)

-- one turn of a loop that moves to an index
pub turn : (p : Point) (s : List ℕ) (i index : ℕ) → i < index → i < length s
    → movedBy (index - i) p (drop i s) ≡ movedBy (index - (i + 1)) (passed p (drop i s)) (drop (i + 1) s)
turn p s i index l h =
    let e : index - i ≡ suc (index - (i + 1)) = omega arith in
    ap (λ n. movedBy n p (drop i s)) e ∙ moved-in p s i (index - (i + 1)) h

-- there are no more bytes to pass
pub arrived : (p : Point) (s : List ℕ) (i index : ℕ) → min index (length s) ≤ i → movedBy (index - i) p (drop i s) ≡ p
unfolding movedBy
arrived p s i index h =
    split (ltb i index) (λ t. let l = ltb-true i index t in moved-out p s i (index - i) (omega arith))
    (λ t. let l = ltb-false i index t in let e : index - i ≡ 0 = omega arith in ap (λ n. movedBy n p (drop i s)) e)

-- ---- the point at an index of a text
module _ (text : List ℕ) where
  pub point-start : pointAt text 0 ≡ start
  unfolding pointAt movedBy
  point-start = refl

  -- moving by m and then by n is moving by both
  by-both : (m n i : ℕ) (p : Point) → movedBy n (movedBy m p (drop i text)) (drop (i + m) text) ≡ movedBy (m + n) p (drop i text)
  unfolding movedBy
  by-both zero n i p = rw (add-zero, zero-add)
  by-both (suc m) n i p =
      split (ltb i (length text))
      (λ t.
      let h : i < length text = ltb-true i (length text) t in
      let e : i + suc m ≡ (i + 1) + m = omega arith in
      rw (suc-add, moved-in p text i (m + n) h, moved-in p text i m h, e) (by-both m n (i + 1) (passed p (drop i text))))
      (λ t.
      let h : length text ≤ i = ltb-false i (length text) t in
      let k : length text ≤ i + suc m = omega arith in
      rw (moved-out p text i (suc m) h, moved-out p text i (suc m + n) h) (moved-out p text (i + suc m) n k))

  -- from the point at i on to j
  pub point-on : (i j : ℕ) → i ≤ j → movedBy (j - i) (pointAt text i) (drop i text) ≡ pointAt text j
  unfolding pointAt
  point-on i j h =
      let e : i + (j - i) ≡ j = omega arith in
      let b : movedBy (j - i) (movedBy i start (drop 0 text)) (drop (0 + i) text) ≡ movedBy (i + (j - i)) start (drop 0 text) = by-both i (j - i) 0 start in
      let z : 0 + i ≡ i = omega arith in
      rw (z, e) at b

  -- past the byte at i
  pub point-next : (i : ℕ) → i < length text → pointAt text (i + 1) ≡ passed (pointAt text i) (drop i text)
  unfolding movedBy
  point-next i h =
      let e : (i + 1) - i ≡ suc 0 = omega arith in
      sym (point-on i (i + 1) (omega arith)) ∙ rw e (moved-in (pointAt text i) text i 0 h)
