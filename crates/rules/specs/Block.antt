-- HTML blocks, CommonMark 0.31.2, 4.6, with F1 to F6. A block is a run of lines.
use Rattle.std.specs.Prelude.{ℕ, zero, suc, ◌+◌, ◌%◌, Bool, true, false, ◌&&◌, ◌||◌, not, List, [], ◌∷◌, eqb, leb, ltb, length, take, drop}
use Rattle.lexical.specs.Text.{byte, bytes, first, run}
use Rattle.lexical.specs.Byte.{isLetter, isTagNameByte, isSpaceOrTab}
use Rattle.lexical.specs.Name.{isBlockName, isRawName, unnamed, blockPlace, rawPlace}
use Rattle.lexical.specs.Line.{isBlank, atLineEnd}
use Rattle.rules.specs.Search.{choose, begins, before, Left, left, nothing}
use Rattle.rules.specs.Tag.{blockTags, openTag, closingTag}
use Rattle.rules.specs.Lines.{Line, isLazy, isInterrupt}
use Rattle.rules.specs.declared.Rules.{Rules}

-- ---- start conditions, of a line behind its indentation
-- a tag name in front, and what follows it
abbrev pub nameOf : List ℕ → List ℕ
nameOf s = take (run isTagNameByte s) s

abbrev pub afterName : List ℕ → List ℕ
afterName s = drop (run isTagNameByte s) s

-- followed by a space, a tab, `>` or the end of the line
abbrev pub nameEnds : List ℕ → Bool
nameEnds s = atLineEnd s || (isSpaceOrTab (first s) || begins (bytes ">") s)

-- 1: `<` and a raw name
unfoldable pub startsRaw : List ℕ → Bool
startsRaw s = begins (bytes "<") s && (isRawName (nameOf (drop 1 s)) && nameEnds (afterName (drop 1 s)))

-- a block name, followed by one of these or by `/>`
abbrev pub basicName : List ℕ → Bool
basicName s = isBlockName (nameOf s) && (nameEnds (afterName s) || begins (bytes "/>") (afterName s))

-- 6: `<` or `</` and a block name
unfoldable pub startsBasic : List ℕ → Bool
startsBasic s = (begins (bytes "<") s && basicName (drop 1 s)) || (begins (bytes "</") s && basicName (drop 2 s))

-- only spaces and tabs follow, to the end of the line
abbrev pub fillsLine : Left → Bool
fillsLine (left s) = isBlank s
fillsLine nothing = false

-- 7: a complete open tag with any name but a raw one, or a complete closing tag, and nothing more; F3: a raw one too, where `/` stands right behind
-- it (all else that begins with a raw name is kind 1)
unfoldable pub startsComplete : Rules → List ℕ → Bool
startsComplete ρ s =
    ((ρ.f3 || not (isRawName (nameOf (drop 1 s)))) && fillsLine (openTag (blockTags ρ) s)) || fillsLine (closingTag s)

-- 7 cannot interrupt a paragraph; F6: unless the line is lazy
abbrev pub mayStart : Rules → ℕ → Bool
mayStart ρ f = not (isInterrupt f) || (ρ.f6 && isLazy f)

-- the kind whose condition holds, or 0
unfoldable pub kindAt : Rules → ℕ → List ℕ → ℕ
kindAt ρ f s =
    choose (startsRaw s) (λ _. 1)
    (λ _. choose (begins (bytes "<!--") s) (λ _. 2)
    (λ _. choose (begins (bytes "<?") s) (λ _. 3)
    (λ _. choose (begins (bytes "<!") s && isLetter (first (drop 2 s))) (λ _. 4)
    (λ _. choose (begins (bytes "<![CDATA[") s) (λ _. 5)
    (λ _. choose (startsBasic s) (λ _. 6)
    (λ _. choose (startsComplete ρ s && mayStart ρ f) (λ _. 7) (λ _. 0)))))))

-- up to three spaces of indentation; a tab is more than three
abbrev pub indentation : List ℕ → ℕ
indentation s = run (λ b. eqb b (byte " ")) s

unfoldable pub kindOf : Rules → Line → ℕ
kindOf ρ l =
    choose (leb (indentation l.content) 3) (λ _. kindAt ρ l.flag (drop (indentation l.content) l.content)) (λ _. 0)

-- ---- SCOPE, Which name it was: which name it was
-- the place of a name in the list of kind 1 or 6, counted from 0; other kinds carry 255
abbrev pub placeIn : ℕ → List ℕ → ℕ
placeIn k n = choose (eqb k 1) (λ _. rawPlace n) (λ _. choose (eqb k 6) (λ _. blockPlace n) (λ _. unnamed))

-- the tag name behind `</` or `<`
abbrev pub tagName : List ℕ → List ℕ
tagName s = choose (begins (bytes "</") s) (λ _. nameOf (drop 2 s)) (λ _. nameOf (drop 1 s))

abbrev pub lineName : Line → List ℕ
lineName l = tagName (drop (indentation l.content) l.content)

-- of a line that opens kind k
unfoldable pub placeOf : ℕ → Line → ℕ
placeOf k l = placeIn k (lineName l)

-- ---- end conditions
-- 1: an end tag with a raw name, which need not be the start tag's
abbrev pub isRawEnd : List ℕ → Bool
isRawEnd s = begins (bytes "</") s && (isRawName (nameOf (drop 2 s)) && begins (bytes ">") (afterName (drop 2 s)))

-- F1: a maximal, even, nonempty run of `]` before `>`, of which the closer has the last two; n of it stand just before s
unfoldable pub beforeEven : ℕ → List ℕ → ℕ
beforeEven n [] = 0
beforeEven n (x ∷ xs) =
    choose (begins (bytes "]]>") (x ∷ xs) && eqb (n % 2) 0) (λ _. 0)
    (λ _. suc (choose (eqb x (byte "]")) (λ _. beforeEven (suc n) xs) (λ _. beforeEven 0 xs)))

-- how many bytes of a line stand before the closer of kind k, the earliest in it; all, where it has none
unfoldable pub beforeCloser : Rules → ℕ → List ℕ → ℕ
beforeCloser ρ k s =
    choose (eqb k 1) (λ _. before isRawEnd s)
    (λ _. choose (eqb k 2) (λ _. before (begins (bytes "-->")) s)
    (λ _. choose (eqb k 3) (λ _. before (begins (bytes "?>")) s)
    (λ _. choose (eqb k 4) (λ _. before (begins (bytes ">")) s)
    (λ _. choose (eqb k 5) (λ _. choose ρ.f1 (λ _. beforeEven 0 s) (λ _. before (begins (bytes "]]>")) s))
    (λ _. length s)))))

-- a line contains the closer of kind k: it begins before the end
unfoldable pub closes : Rules → ℕ → List ℕ → Bool
closes ρ k s = ltb (beforeCloser ρ k s) (length s)

-- ---- the block
-- how many lines it takes, and whether a closer was met
pub record Extent : Type 0 where
  pub lines : ℕ
  pub closed : Bool

abbrev pub extent : ℕ → Bool → Extent
extent n c = record { lines = n; closed = c }

abbrev pub oneMore : Extent → Extent
oneMore e = extent (suc e.lines) e.closed

-- SCOPE: a lazy line ends every kind; a blank one ends kinds 6 and 7
abbrev pub endsBefore : ℕ → Line → Bool
endsBefore k l = isLazy l.flag || (leb 6 k && isBlank l.content)

-- of the lines behind the first
unfoldable pub goesOn : Rules → ℕ → List Line → Extent
goesOn ρ k [] = extent 0 false
goesOn ρ k (l ∷ ls) =
    choose (endsBefore k l) (λ _. extent 0 false)
    (λ _. choose (closes ρ k l.content) (λ _. extent 1 true) (λ _. oneMore (goesOn ρ k ls)))

-- of all lines, the first of which opens kind k
unfoldable pub extentOf : Rules → ℕ → Line → List Line → Extent
extentOf ρ k l ls = choose (closes ρ k l.content) (λ _. extent 1 true) (λ _. oneMore (goesOn ρ k ls))

-- an index in the last of n lines, the first beginning at i: f says how many bytes of that line's content stand before it
unfoldable pub inLast : (List ℕ → ℕ) → ℕ → ℕ → List Line → ℕ
inLast f i zero ls = i
inLast f i (suc n) [] = i
inLast f i (suc zero) (l ∷ ls) = i + f l.content
inLast f i (suc (suc n)) (l ∷ []) = i + f l.content
inLast f i (suc (suc n)) (l ∷ m ∷ ls) = inLast f (i + length l.content + length m.lead) (suc n) (m ∷ ls)

-- the end of its content
abbrev pub stopAfter : ℕ → ℕ → List Line → ℕ
stopAfter i n ls = inLast length i n ls

-- SCOPE, Where the closer stands: the first byte of the closer of kind k, or the end where there is none
abbrev pub closerAfter : Rules → ℕ → ℕ → ℕ → List Line → ℕ
closerAfter ρ k i n ls = inLast (beforeCloser ρ k) i n ls
