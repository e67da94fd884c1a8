-- Laws of cutting a text into lines: its first line, and the lines behind it. At each byte, either the line ends there or the byte belongs to it.
use Rattle.std.proofs.Common.{◌≡◌, refl, ◌∙◌, ap, Bool, true, false, not, List, [], ◌∷◌, ℕ, suc, ◌+◌, ◌≤◌, arith, eqb, length, take, drop, length-drop, length-take-le, drop-drop, eqb-true, ne_eqb}
use Rattle.lexical.specs.Text.{byte, run}
use Rattle.lexical.specs.Byte.{isSpaceOrTab, isLineEndingByte}
use Rattle.lexical.specs.Line.{lineEnding, lineLength}
use Rattle.lexical.proofs.Cases.{split}
use Rattle.lexical.proofs.Run.{run-length}
use Rattle.lexical.proofs.Ending.{ending-length, ending-within}
use Rattle.rules.specs.Search.{choose}
use Rattle.rules.specs.Lines.{Line, line, push, cutLines}

-- the lines behind a line whose content ends in front of s
unfoldable pub behind : List ℕ → List Line
behind s = choose (eqb (lineEnding s) 0) (λ _. []) (λ _. cutLines false (take (lineEnding s) s) (drop (lineEnding s) s))

-- behind a CR: CR LF is one ending
behind-cr : (xs : List ℕ) → cutLines true (byte "\r" ∷ []) xs ≡ behind (byte "\r" ∷ xs)
unfolding cutLines behind lineEnding
behind-cr [] = refl
behind-cr (y ∷ ys) = split (eqb y (byte "\n")) (λ h. rw (eqb-true y (byte "\n") h)) (λ h. simp h)

-- a text is its first line, and the lines behind it
pub cut-first : (e s : List ℕ) → cutLines false e s ≡ line 0 e (take (lineLength s) s) ∷ behind (drop (lineLength s) s)
unfolding cutLines run behind lineEnding
cut-first e [] = refl
cut-first e (x ∷ xs) =
    split (eqb x (byte "\n"))
    (λ h. rw (eqb-true x (byte "\n") h))
    (λ h. split (eqb x (byte "\r"))
    (λ r. rw (eqb-true x (byte "\r") r) (ap (λ ls. line 0 e [] ∷ ls) (behind-cr xs)))
    (λ r. simp (h, r) (ap (push x) (cut-first e xs))))

-- ---- sizes
-- the bytes of a line
pub content-length : (s : List ℕ) → length (take (lineLength s) s) ≡ lineLength s
content-length s = length-take-le (lineLength s) s (run-length (λ b. not (isLineEndingByte b)) s)

-- a class without line endings: its run in a text is its run in the first line
pub run-content : (f : ℕ → Bool) → ((x : ℕ) → f x ≡ true → isLineEndingByte x ≡ false) → (s : List ℕ) → run f (take (lineLength s) s) ≡ run f s
unfolding run
run-content f apart [] = refl
run-content f apart (x ∷ xs) =
    split (f x) (λ h. simp (h, apart x h) (ap suc (run-content f apart xs)))
    (λ h. split (isLineEndingByte x) (λ r. simp (h, r)) (λ r. simp (h, r)))

pub space-apart : (x : ℕ) → eqb x (byte " ") ≡ true → isLineEndingByte x ≡ false
space-apart x h = rw (eqb-true x (byte " ") h)

pub blank-apart : (x : ℕ) → isSpaceOrTab x ≡ true → isLineEndingByte x ≡ false
blank-apart x h = split (eqb x (byte " ")) (λ s. space-apart x s) (λ s. let t : eqb x (byte "\t") ≡ true = rw s at h in rw (eqb-true x (byte "\t") t))

-- a run of a class without line endings ends with the line
pub run-within : (f : ℕ → Bool) → ((x : ℕ) → f x ≡ true → isLineEndingByte x ≡ false) → (s : List ℕ) → run f s ≤ lineLength s
run-within f apart s = omega (arith, run-content f apart s, run-length f (take (lineLength s) s), content-length s)

-- ---- the lines behind an ending at an index of a text
module _ (s : List ℕ) (i : ℕ) where
  -- behind the ending, and where the line behind it ends
  abbrev pub lineFrom : ℕ
  lineFrom = i + lineEnding (drop i s)

  abbrev pub lineTo : ℕ
  lineTo = lineFrom + lineLength (drop lineFrom s)

  pub behind-none : lineEnding (drop i s) ≡ 0 → behind (drop i s) ≡ []
  unfolding behind
  behind-none e = rw e

  pub behind-one : (lineEnding (drop i s) ≡ 0 → ⊥)
      → behind (drop i s) ≡ line 0 (take (lineEnding (drop i s)) (drop i s)) (take (lineLength (drop lineFrom s)) (drop lineFrom s)) ∷ behind (drop lineTo s)
  unfolding behind
  behind-one h =
      rw (ne_eqb (lineEnding (drop i s)) 0 h, drop-drop (lineEnding (drop i s)) i s)
      (cut-first (take (lineEnding (drop i s)) (drop i s)) (drop lineFrom s)
      ∙ ap (λ t. line 0 (take (lineEnding (drop i s)) (drop i s)) (take (lineLength (drop lineFrom s)) (drop lineFrom s)) ∷ behind t) (drop-drop (lineLength (drop lineFrom s)) lineFrom s))

  pub to-within : i ≤ length s → lineTo ≤ length s
  to-within h = let l = ending-within s i h in omega (arith, run-length (λ b. not (isLineEndingByte b)) (drop lineFrom s), length-drop lineFrom s)

  pub lead-length : length (take (lineEnding (drop i s)) (drop i s)) ≡ lineEnding (drop i s)
  lead-length = length-take-le (lineEnding (drop i s)) (drop i s) (ending-length (drop i s))
