-- Lines, from CommonMark 0.31.2, section 2.1, and docs/SCOPE.md.
use Rattle.std.specs.Prelude.{ℕ, zero, suc, Bool, true, not, ◌&&◌, ◌||◌, List, [], ◌∷◌, drop, ◌==◌}
use Rattle.lexical.specs.Text.{byte, pick, first, run}
use Rattle.lexical.specs.Byte.{isSpaceOrTab, isLineEndingByte}

-- 2.1: a line ending is LF, CR LF or CR; how many bytes of one stand in front
unfoldable pub lineEnding : List ℕ → ℕ
lineEnding s =
    pick (first s == (byte "\n")) 1
    (pick (first s == (byte "\r")) (pick (first (drop 1 s) == (byte "\n")) 2 1) 0)

-- the first byte ends a line: LF does, and CR where no LF follows it
unfoldable pub endsLine : List ℕ → Bool
endsLine s = first s == (byte "\n") || (first s == (byte "\r") && not (first (drop 1 s) == (byte "\n")))

-- the number of line endings
unfoldable pub lineEndings : List ℕ → ℕ
lineEndings [] = 0
lineEndings (x ∷ xs) = pick (endsLine (x ∷ xs)) (suc (lineEndings xs)) (lineEndings xs)

-- there is one line more than there are line endings
unfoldable pub lines : List ℕ → ℕ
lines s = suc (lineEndings s)

-- an index is a line's first byte where it is 0 or a line ends just before it
unfoldable pub isLineStart : List ℕ → ℕ → Bool
isLineStart s zero = true
isLineStart s (suc i) = endsLine (drop i s)

-- a byte of a line's content that is not a mark
abbrev pub isInner : ℕ → ℕ → Bool
isInner mark b = not (b == mark || isLineEndingByte b)

-- how many bytes stand in front of the line's ending
abbrev pub lineLength : List ℕ → ℕ
lineLength s = run (λ b. not (isLineEndingByte b)) s

-- the line has no more bytes
abbrev pub atLineEnd : List ℕ → Bool
atLineEnd [] = true
atLineEnd (x ∷ xs) = isLineEndingByte x

-- a line of only spaces and tabs, or of no bytes, is blank
unfoldable pub isBlank : List ℕ → Bool
isBlank s = atLineEnd (drop (run isSpaceOrTab s) s)
