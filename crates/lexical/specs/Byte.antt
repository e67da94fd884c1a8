-- Byte classes, in the words of CommonMark 0.31.2.
use Rattle.std.specs.Prelude.{ℕ, ◌+◌, Bool, true, ◌&&◌, ◌||◌, List, [], ◌∷◌, ◌==◌, nat_le}
use Rattle.lexical.specs.Text.{byte, pick}

-- from lo to hi, both included
abbrev pub within : ℕ → ℕ → ℕ → Bool
within lo hi b = nat_le lo b && nat_le b hi

-- an ASCII letter: `A` to `Z` or `a` to `z`
abbrev pub isLetter : ℕ → Bool
isLetter b = within (byte "A") (byte "Z") b || within (byte "a") (byte "z") b

-- an ASCII digit
abbrev pub isDigit : ℕ → Bool
isDigit b = within (byte "0") (byte "9") b

-- 6.6: a tag name goes on with letters, digits or `-`
abbrev pub isTagNameByte : ℕ → Bool
isTagNameByte b = b == (byte "-") || (isDigit b || isLetter b)

-- 6.6: an attribute name begins with a letter, `_` or `:`
abbrev pub isAttributeNameStart : ℕ → Bool
isAttributeNameStart b = isLetter b || (b == (byte "_") || b == (byte ":"))

-- 6.6: and goes on with letters, digits, `_`, `.`, `:` or `-`
abbrev pub isAttributeNameByte : ℕ → Bool
isAttributeNameByte b = isTagNameByte b || (b == (byte "_") || (b == (byte ".") || b == (byte ":")))

-- a space or a tab
abbrev pub isSpaceOrTab : ℕ → Bool
isSpaceOrTab b = b == (byte " ") || b == (byte "\t")

-- 2.1: LF or CR, of which line endings consist
abbrev pub isLineEndingByte : ℕ → Bool
isLineEndingByte b = b == (byte "\n") || b == (byte "\r")

-- a space, a tab or a byte of a line ending
abbrev pub isWhitespace : ℕ → Bool
isWhitespace b = isSpaceOrTab b || isLineEndingByte b

-- a quotation mark: `"` or `'`
abbrev pub isQuote : ℕ → Bool
isQuote b = b == (byte "\"") || b == (byte "'")

-- 6.6: an unquoted value includes no space, tab, line ending, `"`, `'`, `=`, `<`, `>` or backtick
abbrev pub isValueExcluded : ℕ → Bool
isValueExcluded b =
    isWhitespace b || (isQuote b || (b == (byte "=") || (b == (byte "<") || (b == (byte ">") || b == (byte "`")))))

-- 6.6: behind a tag name or a quoted value stands whitespace, `/` or `>`
abbrev pub isTagBreak : ℕ → Bool
isTagBreak b = isWhitespace b || (b == (byte "/") || b == (byte ">"))

-- 6.6: a tag name is followed by one of these, or by nothing
abbrev pub isNameBreak : List ℕ → Bool
isNameBreak [] = true
isNameBreak (x ∷ xs) = isTagBreak x

-- 6.6: the first byte of an attribute name; where F2 is made, with digits also a digit
abbrev pub isNameStart : Bool → ℕ → Bool
isNameStart digits b = isAttributeNameStart b || (isDigit b && digits)

-- 6.6: an unquoted value ends at what it does not include; where T1 or F4 is made, with slash also at `/`
abbrev pub isValueEnd : Bool → ℕ → Bool
isValueEnd slash b = isValueExcluded b || (b == (byte "/") && slash)

-- `A` to `Z` in lower case, and any other byte as it is
abbrev pub lower : ℕ → ℕ
lower b = pick (within (byte "A") (byte "Z") b) (b + 32) b
