-- Refusals, SCOPE, Where each refusal is met: for each entry its checks in the order of the table.
use Rattle.std.specs.Prelude.{ℕ, Bool, ◌&&◌, not, List, [], ◌∷◌, Result, Ok, Err, eqb, leb, ltb, length, drop}
use Rattle.lexical.specs.Text.{first, limit}
use Rattle.lexical.specs.Byte.{isSpaceOrTab, isLineEndingByte}
use Rattle.lexical.specs.Line.{endsLine, lines, isLineStart}
use Rattle.lexical.specs.Name.{all}
use Rattle.rules.specs.Search.{choose, somewhere, past}
use Rattle.rules.specs.declared.refusal.Refusal.{Refusal}
use Rattle.rules.specs.declared.refusal.Refusal.TheVariants.{TooLong, WrongCount, WrongFlag, WrongIndex, WrongCarry, BlankLine, NoRoom, WrongKind, CutOff, NotEnded, NotNarrow, WrongSpans}

-- a check: where the test holds, the number is given
pub data Check : Type 0 where
  check : Bool → ℕ → Check

-- the number of the first check that applies, or 0
unfoldable pub refusal : List Check → ℕ
refusal [] = 0
refusal (check b n ∷ cs) = choose b (λ _. n) (λ _. refusal cs)

-- 1: over the limit
abbrev pub tooLong : List ℕ → Check
tooLong s = check (ltb limit (length s)) 1

-- 2: count is not the number of lines
abbrev pub wrongCount : List ℕ → List ℕ → Check
wrongCount text flags = check (not (eqb (length flags) (lines text))) 2

-- 3: a flag above 3
abbrev pub wrongFlag : List ℕ → Check
wrongFlag flags = check (not (all (λ f. leb f 3) flags)) 3

-- 4: a block's index is not a line's first byte; an inline index is above the length
abbrev pub noLineStart : List ℕ → ℕ → Check
noLineStart text i = check (not (isLineStart text i)) 4

abbrev pub pastEnd : List ℕ → ℕ → Check
pastEnd text i = check (ltb (length text) i) 4

-- 5: a carry above 5
abbrev pub wrongCarry : ℕ → Check
wrongCarry k = check (ltb 5 k) 5

-- 6: two line endings with only spaces, tabs or no bytes between
unfoldable pub blankFollows : List ℕ → Bool
blankFollows s = endsLine s && isLineEndingByte (first (past isSpaceOrTab (drop 1 s)))

abbrev pub hasBlankLine : List ℕ → Check
hasBlankLine text = check (somewhere blankFollows text) 6

-- 7: a buffer with less room than the output needs
abbrev pub tooShort : ℕ → List ℕ → Check
tooShort room output = check (ltb room (length output)) 7

-- ---- the entries
unfoldable pub inlineRefusal : List ℕ → ℕ → ℕ → ℕ
inlineRefusal text i k = refusal (tooLong text ∷ pastEnd text i ∷ wrongCarry k ∷ hasBlankLine text ∷ [])

unfoldable pub blockRefusal : List ℕ → List ℕ → ℕ → ℕ
blockRefusal text flags i = refusal (tooLong text ∷ wrongCount text flags ∷ wrongFlag flags ∷ noLineStart text i ∷ [])

unfoldable pub bulletinRefusal : List ℕ → List ℕ → ℕ
bulletinRefusal text flags = refusal (tooLong text ∷ wrongCount text flags ∷ wrongFlag flags ∷ [])

-- an entry that writes: the refusal of what it reads, then 7
unfoldable pub outputRefusal : ℕ → ℕ → List ℕ → ℕ
outputRefusal reads room output = refusal (check (not (eqb reads 0)) reads ∷ tooShort room output ∷ [])

-- ---- the code's refusals
-- the table's number of each
abbrev pub refusalNumber : Refusal → ℕ
refusalNumber TooLong = 1
refusalNumber WrongCount = 2
refusalNumber WrongFlag = 3
refusalNumber WrongIndex = 4
refusalNumber WrongCarry = 5
refusalNumber BlankLine = 6
refusalNumber NoRoom = 7
refusalNumber WrongKind = 8
refusalNumber CutOff = 9
refusalNumber NotEnded = 10
refusalNumber NotNarrow = 11
refusalNumber WrongSpans = 12

-- what an answer is refused by, or 0
abbrev pub refusalOf : {A : Type 0} → Result A Refusal → ℕ
refusalOf (Ok answer) = 0
refusalOf (Err r) = refusalNumber r
