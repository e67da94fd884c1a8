-- Laws of line endings at an index of a text: what they are by the byte there and the one after it, and that they end within the text.
use Rattle.std.proofs.Common.{◌≡◌, ℕ, zero, suc, ◌+◌, ◌-◌, ◌<◌, ◌≤◌, Bool, true, false, not, eqb, List, [], ◌∷◌, length, drop, refl, ap, sub-one, arith, length-drop, drop-drop, ne_eqb}
use Rattle.std.proofs.lemmas.List.{drop_all, drop_more}
use Rattle.std.proofs.lemmas.Bool.{or_parts}
use Rattle.lexical.specs.Text.{byte, pick, first, run}
use Rattle.lexical.specs.Byte.{isSpaceOrTab, isLineEndingByte}
use Rattle.lexical.specs.Line.{lineEnding, endsLine, lineEndings, lines, isLineStart, lineLength, atLineEnd, isBlank}
use Rattle.lexical.proofs.Cases.{split}
use Rattle.lexical.proofs.Run.{behind-at}
use borrow.Author.Tests.{not-true}

module _ (s : List ℕ) (i : ℕ) where
  -- by the byte there
  pub ending-lf : first (drop i s) ≡ byte "\n" → lineEnding (drop i s) ≡ 1
  unfolding lineEnding
  ending-lf e = rw e

  pub ending-cr : first (drop i s) ≡ byte "\r" → lineEnding (drop i s) ≡ pick (eqb (first (drop (i + 1) s)) (byte "\n")) 2 1
  unfolding lineEnding
  ending-cr e = rw (e, drop-drop 1 i s)

  pub ending-other : (first (drop i s) ≡ byte "\n" → ⊥) → (first (drop i s) ≡ byte "\r" → ⊥) → lineEnding (drop i s) ≡ 0
  unfolding lineEnding
  ending-other l r = rw (ne_eqb _ _ l, ne_eqb _ _ r)

  pub ending-out : length s ≤ i → lineEnding (drop i s) ≡ 0
  unfolding lineEnding
  ending-out h = rw (drop_all i s h)

  pub ends-out : length s ≤ i → endsLine (drop i s) ≡ false
  unfolding endsLine
  ends-out h = rw (drop_all i s h)

  -- a byte is counted where it ends a line
  pub count-in : (b : Bool) → i < length s → endsLine (drop i s) ≡ b → lineEndings (drop i s) ≡ pick b (suc (lineEndings (drop (i + 1) s))) (lineEndings (drop (i + 1) s))
  unfolding lineEndings
  count-in b h e = let t = rw (drop_more s i 0 h) at e in rw (drop_more s i 0 h, t)

  pub count-out : length s ≤ i → lineEndings (drop i s) ≡ 0
  unfolding lineEndings
  count-out h = rw (drop_all i s h)

-- ---- counting from ending to ending
-- no byte of a line's content ends it
inner-none : (x : ℕ) (xs : List ℕ) → isLineEndingByte x ≡ false → endsLine (x ∷ xs) ≡ false
unfolding endsLine
inner-none x xs h = rw ((or_parts (eqb x (byte "\n")) (eqb x (byte "\r")) h).0, (or_parts (eqb x (byte "\n")) (eqb x (byte "\r")) h).1)

content-none : (x : ℕ) (xs : List ℕ) → not (isLineEndingByte x) ≡ true → lineEndings (x ∷ xs) ≡ lineEndings xs
unfolding lineEndings
content-none x xs h = rw (inner-none x xs (not-true _ h))

pub count-behind : (s : List ℕ) (i j : ℕ) → j ≡ i + lineLength (drop i s) → lineEndings (drop i s) ≡ lineEndings (drop j s)
count-behind s i j e = behind-at (λ b. not (isLineEndingByte b)) lineEndings content-none s i j e

-- ---- sizes
pub ending-length : (s : List ℕ) → lineEnding s ≤ length s
unfolding lineEnding
ending-length [] = omega arith
ending-length (x ∷ []) = split (eqb x (byte "\n")) (λ h. simp h (omega arith)) (λ h. split (eqb x (byte "\r")) (λ r. simp (h, r) (omega arith)) (λ r. simp (h, r) (omega arith)))
ending-length (x ∷ y ∷ ys) =
    split (eqb x (byte "\n")) (λ h. simp h (omega arith))
    (λ h. split (eqb x (byte "\r")) (λ r. split (eqb y (byte "\n")) (λ l. simp (h, r, l) (omega arith)) (λ l. simp (h, r, l) (omega arith))) (λ r. simp (h, r) (omega arith)))

-- an ending at an index of a text ends within it
pub ending-within : (s : List ℕ) (i : ℕ) → i ≤ length s → i + lineEnding (drop i s) ≤ length s
ending-within s i h = omega (arith, ending-length (drop i s), length-drop i s)

-- ---- lines
endings-most : (s : List ℕ) → lineEndings s ≤ length s
unfolding lineEndings
endings-most [] = omega arith
endings-most (x ∷ xs) = let h = endings-most xs in split (endsLine (x ∷ xs)) (λ e. rw e (omega arith)) (λ e. rw e (omega arith))

-- there is at most one line more than there are bytes
pub lines-most : (s : List ℕ) → lines s ≤ length s + 1
unfolding lines
lines-most s = let h = endings-most s in omega arith

-- ---- line starts and blank lines
-- an index but 0 is a line's first byte where a line ends just before it
pub start-after : (s : List ℕ) (i : ℕ) → (i ≡ 0 → ⊥) → isLineStart s i ≡ endsLine (drop (i - 1) s)
unfolding isLineStart
start-after s zero h = absurd (h refl)
start-after s (suc i) h = rw (sub-one)

-- a line is blank where it ends after its spaces and tabs
pub blank-at : (s : List ℕ) (i : ℕ) → isBlank (drop i s) ≡ atLineEnd (drop (i + run isSpaceOrTab (drop i s)) s)
unfolding isBlank
blank-at s i = ap atLineEnd (drop-drop (run isSpaceOrTab (drop i s)) i s)
