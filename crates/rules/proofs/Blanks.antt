-- A text without blank lines: a front of it has none, and where its last byte is no whitespace, no line behind an ending is blank.
use Rattle.std.proofs.Common.{◌≡◌, refl, sym, ◌∙◌, ap, Bool, true, false, List, [], ◌∷◌, ℕ, zero, suc, ◌+◌, ◌-◌, ◌<◌, ◌≤◌, arith, eqb, length, get_or, take, drop, drop-drop}
use Rattle.std.proofs.lemmas.List.{drop_more}
use Rattle.std.proofs.lemmas.Bool.{or_parts}
use Rattle.std.proofs.Math.Bool.{and-false, or-true}
use Rattle.lexical.specs.Text.{byte, first, run}
use Rattle.lexical.specs.Byte.{isSpaceOrTab, isLineEndingByte, isWhitespace}
use Rattle.lexical.specs.Line.{lineEnding, endsLine, lineLength, isBlank}
use Rattle.lexical.proofs.Cases.{split, clash}
use Rattle.lexical.proofs.Ending.{ending-within}
use Rattle.rules.specs.Search.{past, somewhere}
use Rattle.rules.specs.Refusal.{blankFollows}
use Rattle.rules.proofs.Cut.{blank-apart, lineFrom}
use Rattle.rules.proofs.Fronts.{lastOr, last-behind}

-- ---- a front
-- no line ending stands behind a class in a front where none does in the whole
past-front : (f : ℕ → Bool) (n : ℕ) (s : List ℕ) → isLineEndingByte (first (past f s)) ≡ false
    → isLineEndingByte (first (past f (take n s))) ≡ false
unfolding past
past-front f zero s e = refl
past-front f (suc n) [] e = refl
past-front f (suc n) (x ∷ xs) e = split (f x) (λ t. let u = rw t at e in rw t (past-front f n xs u)) (λ t. let u = rw t at e in rw t u)

-- nor a blank line behind the first byte
follows-front : (n : ℕ) (s : List ℕ) → blankFollows s ≡ false → blankFollows (take n s) ≡ false
unfolding blankFollows endsLine past
follows-front zero s e = refl
follows-front (suc n) [] e = refl
follows-front (suc zero) (x ∷ xs) e = and-false (endsLine (x ∷ []))
follows-front (suc (suc n)) (x ∷ []) e = e
follows-front (suc (suc n)) (x ∷ y ∷ ys) e =
    split (endsLine (x ∷ y ∷ ys)) (λ t. let u = rw t at e in rw t (past-front isSpaceOrTab (suc n) (y ∷ ys) u)) (λ t. rw t)

-- nor one anywhere
pub no-blank-front : (n : ℕ) (s : List ℕ) → somewhere blankFollows s ≡ false → somewhere blankFollows (take n s) ≡ false
unfolding somewhere
no-blank-front zero s e = refl
no-blank-front (suc n) [] e = refl
no-blank-front (suc n) (x ∷ xs) e =
    rw (follows-front (suc n) (x ∷ xs) (or_parts (blankFollows (x ∷ xs)) (somewhere blankFollows xs) e).0)
    (no-blank-front n xs (or_parts (blankFollows (x ∷ xs)) (somewhere blankFollows xs) e).1)

-- ---- behind an ending
-- a test that holds nowhere does not hold at an index
nowhere : (f : List ℕ → Bool) (s : List ℕ) (i : ℕ) → i < length s → somewhere f s ≡ false → f (drop i s) ≡ false
unfolding somewhere
nowhere f [] i h e = absurd (omega arith)
nowhere f (x ∷ xs) zero h e = (or_parts (f (x ∷ xs)) (somewhere f xs) e).0
nowhere f (x ∷ xs) (suc i) h e = nowhere f xs i (omega arith) (or_parts (f (x ∷ xs)) (somewhere f xs) e).1

-- the last byte of an ending ends the line
last-ends : (n : ℕ) (s : List ℕ) → lineEnding s ≡ suc n → endsLine (drop n s) ≡ true
unfolding lineEnding endsLine
last-ends n [] h = absurd (omega arith)
last-ends n (x ∷ xs) h =
    split (eqb x (byte "\n")) (λ l. let u = rw l at h in let z : n ≡ 0 = omega arith in rw (z, l))
    (λ l. split (eqb x (byte "\r"))
    (λ r. split (eqb (first xs) (byte "\n"))
    (λ m. let u = rw (l, r, m) at h in let z : n ≡ 1 = omega arith in rw (z, m))
    (λ m. let u = rw (l, r, m) at h in let z : n ≡ 0 = omega arith in rw (z, l, r, m)))
    (λ r. let u = rw (l, r) at h in absurd (omega arith)))

-- a byte that ends a line is whitespace
ends-white : (x : ℕ) (xs : List ℕ) → endsLine (x ∷ xs) ≡ true → isWhitespace x ≡ true
unfolding endsLine
ends-white x xs e =
    split (isLineEndingByte x) (λ t. rw t (or-true (isSpaceOrTab x)))
    (λ t. let u = rw ((or_parts (eqb x (byte "\n")) (eqb x (byte "\r")) t).0, (or_parts (eqb x (byte "\n")) (eqb x (byte "\r")) t).1) at e in cc)

-- behind whitespace: where the last byte is no whitespace, and no ending stands behind the spaces and tabs, the line is not blank
not-only : (x : ℕ) (s : List ℕ) → isWhitespace x ≡ true → isWhitespace (lastOr x s) ≡ false → isLineEndingByte (first (past isSpaceOrTab s)) ≡ false
    → isBlank s ≡ false
unfolding past isBlank run
not-only x [] w l e = clash (isWhitespace x) w l
not-only x (y ∷ ys) w l e =
    split (isSpaceOrTab y) (λ t. let u = rw t at e in rw t (not-only y ys (rw t) l u)) (λ t. let u = rw t at e in rw t u)

-- the same behind a byte that ends a line, where no blank line follows it
behind-end : (x : ℕ) (s : List ℕ) → endsLine (x ∷ s) ≡ true → blankFollows (x ∷ s) ≡ false → isWhitespace (lastOr x s) ≡ false → isBlank s ≡ false
unfolding blankFollows
behind-end x s e b l = not-only x s (ends-white x s e) l (rw e at b)

-- the line behind an ending of a text that has no blank line, and whose last byte is no whitespace
pub not-blank : (s : List ℕ) (i : ℕ) → somewhere blankFollows s ≡ false → isWhitespace (lastOr 0 s) ≡ false → i ≤ length s
    → (lineEnding (drop i s) ≡ 0 → ⊥) → isBlank (drop (lineFrom s i) s) ≡ false
not-blank s i none l h e =
    let at = i + (lineEnding (drop i s) - 1) in
    let w : at < length s = omega (arith, ending-within s i h, e) in
    let next : at + 1 ≡ lineFrom s i = omega (arith, e) in
    let x = get_or s at 0 in
    let cut : drop at s ≡ x ∷ drop (lineFrom s i) s = drop_more s at 0 w ∙ ap (λ n. x ∷ drop n s) next in
    behind-end x (drop (lineFrom s i) s)
    (sym (ap endsLine cut) ∙ sym (ap endsLine (drop-drop (lineEnding (drop i s) - 1) i s)) ∙ last-ends (lineEnding (drop i s) - 1) (drop i s) (omega (arith, e)))
    (sym (ap blankFollows cut) ∙ nowhere blankFollows s at w none)
    (sym (ap (λ t. isWhitespace (lastOr 0 t)) cut) ∙ ap isWhitespace (last-behind at 0 0 s w) ∙ l)

-- a line that is not blank has a byte behind its spaces and tabs
pub some-data : (s : List ℕ) → isBlank s ≡ false → run isSpaceOrTab s < lineLength s
unfolding isBlank run
some-data [] e = let z : true ≡ false = e in cc
some-data (x ∷ xs) e =
    split (isSpaceOrTab x) (λ t. let u = rw t at e in let r = some-data xs u in simp (t, blank-apart x t) (omega arith)) (λ t. let u = rw t at e in simp (t, u) (omega arith))
