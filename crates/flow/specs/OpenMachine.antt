-- The openings of html_flow.rt, in the order of the code: the kind of a line from its tag's name on, and the name that an opening carries. It need not be
-- believed: no public contract cites it, and proofs/OpenMeans.antt shows that the kind is that of the rules.
use Rattle.std.specs.Prelude.{ℕ, suc, ◌≡◌, Bool, true, false, ◌&&◌, ◌||◌, not, List, drop, length, Option}
use Rattle.lexical.specs.Text.{bytes, first}
use Rattle.lexical.specs.Byte.{isLetter, isWhitespace, isNameBreak}
use Rattle.lexical.specs.Name.{isBlockName, isRawName, named, blockPlace}
use Rattle.rules.specs.Search.{choose, begins, past, exactly}
use Rattle.rules.specs.Tag.{blockTags, attributes}
use Rattle.rules.specs.Block.{nameOf, afterName, fillsLine, mayStart, placeIn}
use Rattle.rules.specs.declared.Rules.{Rules}
use Rattle.flow.specs.Answer.{openingNumber, openingName}
use Rattle.flow.specs.declared.block.Opening.{Opening}

-- a block name, then `/`: only before `>`
unfoldable pub selfClosingOf : List ℕ → ℕ
selfClosingOf a = choose (begins (bytes "/>") a) (λ _. 6) (λ _. 0)

-- what follows the name completes the tag and fills the line
abbrev pub completesOf : Rules → Bool → Bool → List ℕ → Bool
completesOf ρ closing raw a =
    choose closing (λ _. fillsLine (exactly (bytes ">") (past isWhitespace a)))
    (λ _. (ρ.f3 || not raw) && fillsLine (attributes (blockTags ρ) (suc (length a)) a))

unfoldable pub completeOf : Rules → ℕ → Bool → Bool → List ℕ → ℕ
completeOf ρ f closing raw a = choose (mayStart ρ f && completesOf ρ closing raw a) (λ _. 7) (λ _. 0)

-- the name n, with a behind it
unfoldable pub tagNameOf : Rules → ℕ → Bool → List ℕ → List ℕ → ℕ
tagNameOf ρ f closing n a =
    choose (isNameBreak a)
    (λ _. choose (isRawName n && (not closing && not (begins (bytes "/") a))) (λ _. 1)
    (λ _. choose (isBlockName n) (λ _. choose (begins (bytes "/") a) (λ _. selfClosingOf a) (λ _. 6))
    (λ _. completeOf ρ f closing (isRawName n) a)))
    (λ _. 0)

-- behind `<!-`
unfoldable pub commentOpenOf : List ℕ → ℕ
commentOpenOf s = choose (begins (bytes "-") s) (λ _. 2) (λ _. 0)

-- behind `<!`
unfoldable pub declarationOpenOf : List ℕ → ℕ
declarationOpenOf s =
    choose (begins (bytes "--") s) (λ _. 2)
    (λ _. choose (isLetter (first s)) (λ _. 4) (λ _. choose (begins (bytes "[CDATA[") s) (λ _. 5) (λ _. 0)))

-- behind `</`, and behind `<`
unfoldable pub tagCloseStartOf : Rules → ℕ → List ℕ → ℕ
tagCloseStartOf ρ f s = choose (isLetter (first s)) (λ _. tagNameOf ρ f true (nameOf s) (afterName s)) (λ _. 0)

unfoldable pub openOf : Rules → ℕ → List ℕ → ℕ
openOf ρ f s =
    choose (begins (bytes "!") s) (λ _. declarationOpenOf (drop 1 s))
    (λ _. choose (begins (bytes "/") s) (λ _. tagCloseStartOf ρ f (drop 1 s))
    (λ _. choose (begins (bytes "?") s) (λ _. 3)
    (λ _. choose (isLetter (first s)) (λ _. tagNameOf ρ f false (nameOf s) (afterName s)) (λ _. 0))))

-- ---- the name that an opening carries
-- it is the place of n in the list of its kind
abbrev pub Names : Option Opening → List ℕ → Type 0
Names r n = openingName r ≡ placeIn (openingNumber r) n

-- its kind has no list, so this holds of every n
abbrev pub Unnamed : Option Opening → Type 0
Unnamed r = (n : List ℕ) → Names r n

-- the same of every n whose place among the block names was passed in
abbrev pub NamesBasic : Option Opening → Option ℕ → Type 0
NamesBasic r name = (n : List ℕ) → name ≡ named (blockPlace n) → Names r n
