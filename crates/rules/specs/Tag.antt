-- Open and closing tags, CommonMark 0.31.2, 6.6: one grammar for both scans, with a switch for each change that concerns it. Each definition gives what is
-- left behind what it names. 'Spaces, tabs, and up to one line ending' is any whitespace here: an inline text has no two line endings with only blanks
-- between (refusal 6), and a line has none. For a text that has, these definitions say more than the standard does: `<a` LF LF `b>` is a tag here. The scan
-- refuses such a text, and withholding cuts paragraphs, which have none.
use Rattle.std.specs.Prelude.{ℕ, zero, suc, Bool, true, false, ◌&&◌, not, List, [], ◌∷◌, eqb, length, drop}
use Rattle.lexical.specs.Text.{bytes, first}
use Rattle.lexical.specs.Byte.{isLetter, isTagNameByte, isAttributeNameByte, isWhitespace, isQuote, isValueExcluded, isNameStart, isValueEnd}
use Rattle.rules.specs.Search.{choose, begins, past, Left, nothing, orElse, exactly}
use Rattle.rules.specs.declared.Rules.{Rules}

pub record Grammar : Type 0 where
  -- F2: an attribute name may begin with a digit
  pub digits : Bool
  -- T1, F4: an unquoted value holds no `/`
  pub slashless : Bool
  -- T1: but as its first byte
  pub slashFirst : Bool
  -- F5: a further value may follow an unquoted one
  pub further : Bool

abbrev pub inlineTags : Rules → Grammar
inlineTags ρ = record { digits = false; slashless = ρ.t1; slashFirst = true; further = false }

abbrev pub blockTags : Rules → Grammar
blockTags ρ = record { digits = ρ.f2; slashless = ρ.f4; slashFirst = false; further = ρ.f5 }

-- an optional `/`, and `>`
unfoldable pub tagEnd : List ℕ → Left
tagEnd s = orElse (exactly (bytes ">") s) (λ _. exactly (bytes "/>") s)

-- a quoted value's closing mark, and what follows the value
abbrev pub pastQuote : (List ℕ → Left) → List ℕ → Left
pastQuote more [] = nothing
pastQuote more (x ∷ xs) = more xs

-- an attribute value specification: whitespace, `=`, whitespace, and a value; or there is none
abbrev pub specification : (List ℕ → Left) → (List ℕ → Left) → List ℕ → Left
specification more value s =
    choose (begins (bytes "=") (past isWhitespace s)) (λ _. value (past isWhitespace (drop 1 (past isWhitespace s)))) (λ _. more s)

-- the first byte of an attribute name
abbrev pub startsName : Grammar → ℕ → Bool
startsName g b = isNameStart g.digits b

-- a byte of an unquoted value
abbrev pub isValueByte : Grammar → ℕ → Bool
isValueByte g b = not (isValueEnd g.slashless b)

-- behind an unquoted value that begins with x
abbrev pub pastUnquoted : Grammar → ℕ → List ℕ → List ℕ
pastUnquoted g x xs = choose g.slashFirst (λ _. past (isValueByte g) xs) (λ _. past (isValueByte g) (x ∷ xs))

-- an attribute value, quoted or not, and what follows it; again is a further value
abbrev pub value : Grammar → (List ℕ → Left) → (List ℕ → Left) → List ℕ → Left
value g more again [] = nothing
value g more again (x ∷ xs) =
    choose (isQuote x) (λ _. pastQuote more (past (λ b. not (eqb b x)) xs))
    (λ _. choose (isValueExcluded x) (λ _. nothing)
    (λ _. choose g.further (λ _. specification more again (pastUnquoted g x xs)) (λ _. more (pastUnquoted g x xs))))

-- at most n values in a row
unfoldable pub values : Grammar → (List ℕ → Left) → ℕ → List ℕ → Left
values g more zero s = nothing
values g more (suc n) s = value g more (values g more n) s

-- an attribute from the second byte of its name on, and what follows it; it has fewer values than bytes
abbrev pub attribute : Grammar → (List ℕ → Left) → List ℕ → Left
attribute g more s = specification more (values g more (length s)) (past isAttributeNameByte s)

-- at most n attributes, each behind whitespace; whitespace and the tag's end
unfoldable pub attributes : Grammar → ℕ → List ℕ → Left
attributes g zero s = nothing
attributes g (suc n) s =
    choose (isWhitespace (first s) && startsName g (first (past isWhitespace s)))
    (λ _. attribute g (attributes g n) (drop 1 (past isWhitespace s)))
    (λ _. tagEnd (past isWhitespace s))

-- an open tag: `<`, a tag name, attributes, whitespace, an optional `/`, and `>`; it has fewer attributes than bytes
unfoldable pub openTag : Grammar → List ℕ → Left
openTag g s =
    choose (begins (bytes "<") s && isLetter (first (drop 1 s)))
    (λ _. attributes g (length s) (past isTagNameByte (drop 2 s))) (λ _. nothing)

-- a closing tag: `</`, a tag name, whitespace, and `>`
unfoldable pub closingTag : List ℕ → Left
closingTag s =
    choose (begins (bytes "</") s && isLetter (first (drop 2 s)))
    (λ _. exactly (bytes ">") (past isWhitespace (past isTagNameByte (drop 3 s)))) (λ _. nothing)
