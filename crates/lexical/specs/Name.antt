-- Names of tags, from CommonMark 0.31.2, section 4.6, and the GitHub Flavored Markdown Spec, section 6.11; and the CDATA prefix.
use Rattle.std.specs.Prelude.{◌≡◌, ℕ, zero, suc, ◌+◌, ◌-◌, ◌<◌, ◌≤◌, Bool, true, false, ◌&&◌, ◌||◌, ltb, List, [], ◌∷◌, ◌++◌, Option, Some, None, map, length, take, drop, ◌==◌, nat_le, nat_lt, slice_index_or, slice_range}
use Rattle.lexical.specs.Text.{byte, bytes, pick, first}
use Rattle.lexical.specs.Byte.{within, lower}

-- 4.6, start condition 6: the 62 names
unfoldable pub blockNames : List (List ℕ)
blockNames =
    bytes "address" ∷
    bytes "article" ∷
    bytes "aside" ∷
    bytes "base" ∷
    bytes "basefont" ∷
    bytes "blockquote" ∷
    bytes "body" ∷
    bytes "caption" ∷
    bytes "center" ∷
    bytes "col" ∷
    bytes "colgroup" ∷
    bytes "dd" ∷
    bytes "details" ∷
    bytes "dialog" ∷
    bytes "dir" ∷
    bytes "div" ∷
    bytes "dl" ∷
    bytes "dt" ∷
    bytes "fieldset" ∷
    bytes "figcaption" ∷
    bytes "figure" ∷
    bytes "footer" ∷
    bytes "form" ∷
    bytes "frame" ∷
    bytes "frameset" ∷
    bytes "h1" ∷
    bytes "h2" ∷
    bytes "h3" ∷
    bytes "h4" ∷
    bytes "h5" ∷
    bytes "h6" ∷
    bytes "head" ∷
    bytes "header" ∷
    bytes "hr" ∷
    bytes "html" ∷
    bytes "iframe" ∷
    bytes "legend" ∷
    bytes "li" ∷
    bytes "link" ∷
    bytes "main" ∷
    bytes "menu" ∷
    bytes "menuitem" ∷
    bytes "nav" ∷
    bytes "noframes" ∷
    bytes "ol" ∷
    bytes "optgroup" ∷
    bytes "option" ∷
    bytes "p" ∷
    bytes "param" ∷
    bytes "search" ∷
    bytes "section" ∷
    bytes "summary" ∷
    bytes "table" ∷
    bytes "tbody" ∷
    bytes "td" ∷
    bytes "tfoot" ∷
    bytes "th" ∷
    bytes "thead" ∷
    bytes "title" ∷
    bytes "tr" ∷
    bytes "track" ∷
    bytes "ul" ∷
    []

-- 4.6, start condition 1: the four names
unfoldable pub rawNames : List (List ℕ)
rawNames = bytes "pre" ∷ bytes "script" ∷ bytes "style" ∷ bytes "textarea" ∷ []

-- GitHub Flavored Markdown Spec 0.29, 6.11, Disallowed Raw HTML: the nine names, by their letters
unfoldable pub disallowedNames : List (List ℕ)
disallowedNames =
    bytes "iframe" ∷ bytes "noembed" ∷ bytes "noframes" ∷ bytes "plaintext" ∷ bytes "script" ∷ bytes "style" ∷ bytes "textarea" ∷ bytes "title" ∷ bytes "xmp" ∷ []

-- two byte strings are the same
unfoldable pub sameBytes : List ℕ → List ℕ → Bool
sameBytes [] [] = true
sameBytes [] (y ∷ ys) = false
sameBytes (x ∷ xs) [] = false
sameBytes (x ∷ xs) (y ∷ ys) = x == y && sameBytes xs ys

-- a name is one of a list
unfoldable pub isMember : List ℕ → List (List ℕ) → Bool
isMember n [] = false
isMember n (x ∷ xs) = sameBytes n x || isMember n xs

-- 4.6: names are matched case-insensitively
unfoldable pub isBlockName : List ℕ → Bool
isBlockName n = isMember (map lower n) blockNames

unfoldable pub isRawName : List ℕ → Bool
isRawName n = isMember (map lower n) rawNames

-- in any letter case
unfoldable pub isDisallowedName : List ℕ → Bool
isDisallowedName n = isMember (map lower n) disallowedNames

-- ---- which name it is
-- no place: no list has as many names
abbrev pub unnamed : ℕ
unnamed = 255

-- a place, if it is one
abbrev pub named : ℕ → Option ℕ
named place = pick (place == unnamed) None (Some place)

-- the place of a name in a list whose first name has the place k
unfoldable pub placeFrom : ℕ → List ℕ → List (List ℕ) → ℕ
placeFrom k n [] = unnamed
placeFrom k n (x ∷ xs) = pick (sameBytes n x) k (placeFrom (suc k) n xs)

-- counted from 0, and letter case ignored
unfoldable pub blockPlace : List ℕ → ℕ
blockPlace n = placeFrom 0 (map lower n) blockNames

unfoldable pub rawPlace : List ℕ → ℕ
rawPlace n = placeFrom 0 (map lower n) rawNames

-- a list has a name at a place, letter case ignored
pub record StandsAt (names : List (List ℕ)) (n : List ℕ) (place : ℕ) : Type 0 where
  pub within : place < length names
  pub there : slice_index_or names place [] ≡ map lower n

-- 6.6: a CDATA section begins with `<![CDATA[`; what follows `<![`
unfoldable pub cdataPrefix : List ℕ
cdataPrefix = bytes "CDATA["

-- how many bytes of p stand in front of s
unfoldable pub matched : List ℕ → List ℕ → ℕ
matched [] s = 0
matched (p ∷ ps) [] = 0
matched (p ∷ ps) (x ∷ xs) = pick (x == p) (suc (matched ps xs)) 0

-- where T2 is made, k letters of the prefix were counted, and it is compared with s from there on: the letters counted then
unfoldable pub cdataLetters : ℕ → List ℕ → ℕ
cdataLetters k s = k + matched (drop k cdataPrefix) s

-- ---- names end to end, and the offsets that cut them
-- the names end to end
unfoldable pub nameBytes : List (List ℕ) → List ℕ
nameBytes [] = []
nameBytes (x ∷ xs) = x ++ nameBytes xs

-- where each name begins, the first at n, and last where they end
unfoldable pub nameOffsets : ℕ → List (List ℕ) → List ℕ
nameOffsets n [] = n ∷ []
nameOffsets n (x ∷ xs) = n ∷ nameOffsets (n + length x) xs

-- the parts of a table from each offset to the next
unfoldable pub cut : List ℕ → List ℕ → List (List ℕ)
cut table [] = []
cut table (a ∷ []) = []
cut table (a ∷ b ∷ rest) = slice_range table a b ∷ cut table (b ∷ rest)

-- every entry passes a test
unfoldable pub all : {A : Type 0} → (A → Bool) → List A → Bool
all f [] = true
all f (x ∷ xs) = f x && all f xs

-- every entry stands in a relation to the next
unfoldable pub chain : {A : Type 0} → (A → A → Bool) → List A → Bool
chain f [] = true
chain f (x ∷ []) = true
chain f (x ∷ y ∷ rest) = f x y && chain f (y ∷ rest)

-- offsets rise strictly, and none is above n
unfoldable pub rising : ℕ → List ℕ → Bool
rising n offsets = all (λ o. nat_le o n) offsets && chain ltb offsets

-- ---- names by their first letter
-- the names of a list that begin with a byte
unfoldable pub beginningWith : ℕ → List (List ℕ) → List (List ℕ)
beginningWith b [] = []
beginningWith b (x ∷ xs) = pick (first x == b) (x ∷ beginningWith b xs) (beginningWith b xs)

-- they are exactly what stands from one place of the list up to another
pub record Exactly (names : List (List ℕ)) (b from to : ℕ) : Type 0 where
  pub forward : from ≤ to
  pub inside : to ≤ length names
  pub same : take (to - from) (drop from names) ≡ beginningWith b names

-- how many names of a list begin with a byte below b
unfoldable pub namesBelow : ℕ → List (List ℕ) → ℕ
namesBelow b [] = 0
namesBelow b (x ∷ xs) = pick (nat_lt (first x) b) (suc (namesBelow b xs)) (namesBelow b xs)

-- the places where the names of n letters begin, the first letter b, and last where they end
unfoldable pub startsFrom : ℕ → ℕ → List (List ℕ) → List ℕ
startsFrom zero b names = namesBelow b names ∷ []
startsFrom (suc n) b names = namesBelow b names ∷ startsFrom n (suc b) names

-- `a` to `z`
abbrev pub letters : ℕ
letters = 26

unfoldable pub letterStarts : List (List ℕ) → List ℕ
letterStarts names = startsFrom letters (byte "a") names

-- every name begins with a letter, in lower case, and none with an earlier one than the name before it
unfoldable pub byLetter : List (List ℕ) → Bool
byLetter names = all (λ x. within (byte "a") (byte "z") (first x)) names && chain (λ x y. nat_le (first x) (first y)) names

-- the names that begin with a byte stand there in every list by letter whose starts these are
abbrev pub GoesTo : List ℕ → ℕ → ℕ → ℕ → Type 0
GoesTo starts b from to = (names : List (List ℕ)) → byLetter names ≡ true → starts ≡ letterStarts names → Exactly names b from to

-- a table in which a name can be looked up by its first letter: the offsets rise, one more than names, each place is a byte, the names are by letter, and the starts are theirs
pub record LetterTable (table offsets starts : List ℕ) : Type 0 where
  pub rise : rising (length table) offsets ≡ true
  pub counted : length offsets ≡ suc (length (cut table offsets))
  pub few : length offsets ≤ unnamed
  pub order : byLetter (cut table offsets) ≡ true
  pub begin : starts ≡ letterStarts (cut table offsets)
