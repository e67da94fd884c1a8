-- Refusal 6 at an index of a text.
use Rattle.std.proofs.Common.{◌≡◌, ◌∙◌, ap, true, false, not, List, ◌∷◌, ℕ, ◌+◌, eqb, drop, drop-drop}
use Rattle.std.proofs.lemmas.List.{drop-drop}
use Rattle.std.proofs.lemmas.Bool.{or_parts}
use borrow.Author.Tests.{not-true}
use Rattle.lexical.specs.Text.{byte, first, run}
use Rattle.lexical.specs.Byte.{isSpaceOrTab, isLineEndingByte}
use Rattle.lexical.specs.Line.{endsLine, lineLength}
use Rattle.rules.specs.Search.{past, somewhere}
use Rattle.rules.specs.Refusal.{blankFollows}
use Rattle.rules.proofs.Past.{past-run, somewhere-behind}

module _ (text : List ℕ) (i : ℕ) where
  -- the byte behind the spaces and tabs behind the index
  past-at : past isSpaceOrTab (drop 1 (drop i text)) ≡ drop (i + 1 + run isSpaceOrTab (drop (i + 1) text)) text
  past-at = ap (past isSpaceOrTab) (drop-drop 1 i text) ∙ past-run isSpaceOrTab (drop (i + 1) text) ∙ drop-drop (run isSpaceOrTab (drop (i + 1) text)) (i + 1) text

  pub blank-in : endsLine (drop i text) ≡ true → isLineEndingByte (first (drop (i + 1 + run isSpaceOrTab (drop (i + 1) text)) text)) ≡ blankFollows (drop i text)
  unfolding blankFollows
  blank-in e = rw (e, past-at)

  pub blank-no : endsLine (drop i text) ≡ false → blankFollows (drop i text) ≡ false
  unfolding blankFollows
  blank-no e = rw e

-- ---- no blank line follows a byte of a line's content
content-no : (x : ℕ) (xs : List ℕ) → not (isLineEndingByte x) ≡ true → blankFollows (x ∷ xs) ≡ false
unfolding blankFollows endsLine
content-no x xs h =
    let n = not-true _ h in rw ((or_parts (eqb x (byte "\n")) (eqb x (byte "\r")) n).0, (or_parts (eqb x (byte "\n")) (eqb x (byte "\r")) n).1)

pub blank-behind : (text : List ℕ) (i j : ℕ) → j ≡ i + lineLength (drop i text) → somewhere blankFollows (drop i text) ≡ somewhere blankFollows (drop j text)
blank-behind = somewhere-behind (λ b. not (isLineEndingByte b)) blankFollows content-no
