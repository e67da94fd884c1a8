-- The lines of a bulletin with their flags, SCOPE, What is read and given.
use Rattle.std.specs.Prelude.{ℕ, Bool, true, false, ◌||◌, List, [], ◌∷◌, eqb}
use Rattle.lexical.specs.Text.{byte}
use Rattle.rules.specs.Search.{choose}

-- a line: its flag, the line ending that leads to it, and its bytes
pub record Line : Type 0 where
  pub flag : ℕ
  pub lead : List ℕ
  pub content : List ℕ

abbrev pub line : ℕ → List ℕ → List ℕ → Line
line f e c = record { flag = f; lead = e; content = c }

-- one byte more in front of the first line
abbrev pub push : ℕ → List Line → List Line
push x [] = []
push x (l ∷ ls) = line l.flag l.lead (x ∷ l.content) ∷ ls

-- the lines of s, the first behind an ending; cr: s stands right behind a CR
unfoldable pub cutLines : Bool → List ℕ → List ℕ → List Line
cutLines cr ending [] = line 0 ending [] ∷ []
cutLines cr ending (x ∷ xs) =
    choose (eqb x (byte "\n"))
    -- CR LF is one ending
    (λ _. choose cr (λ _. cutLines false (byte "\r" ∷ byte "\n" ∷ []) xs) (λ _. line 0 ending [] ∷ cutLines false (byte "\n" ∷ []) xs))
    (λ _. choose (eqb x (byte "\r")) (λ _. line 0 ending [] ∷ cutLines true (byte "\r" ∷ []) xs) (λ _. push x (cutLines false ending xs)))

-- each line gets its flag
unfoldable pub flagged : List ℕ → List Line → List Line
flagged flags [] = []
flagged [] (l ∷ ls) = l ∷ ls
flagged (f ∷ fs) (l ∷ ls) = line f l.lead l.content ∷ flagged fs ls

unfoldable pub linesOf : List ℕ → List ℕ → List Line
linesOf flags text = flagged flags (cutLines false [] text)

-- a flag: 1 lazy, 2 interrupt, 3 both, 0 neither
abbrev pub isLazy : ℕ → Bool
isLazy f = eqb f 1 || eqb f 3

abbrev pub isInterrupt : ℕ → Bool
isInterrupt f = eqb f 2 || eqb f 3
