-- SCOPE, Withhold: the pieces of a bulletin, and what is shown of it.
use Rattle.std.specs.Prelude.{ℕ, zero, suc, ◌+◌, ◌-◌, Bool, true, false, ◌&&◌, ◌||◌, not, List, [], ◌∷◌, ◌++◌, eqb, leb, ltb, length, drop}
use Rattle.lexical.specs.Text.{byte}
use Rattle.lexical.specs.Line.{isBlank}
use Rattle.rules.specs.Search.{choose}
use Rattle.rules.specs.Inline.{Read, takes, lacks, readInline}
use Rattle.rules.specs.Lines.{Line, linesOf}
use Rattle.rules.specs.Block.{Extent, kindOf, extentOf, stopAfter}
use Rattle.rules.specs.declared.Rules.{Rules}

-- ---- what each line is
pub data Mark : Type 0 where
  -- the first line of a block, with its kind and extent
  blockFirst : ℕ → Extent → Mark
  -- a further line of a block
  blockMore : Mark
  blank : Mark
  -- the first line of a paragraph, and a further one
  paragraphFirst : Mark
  paragraphMore : Mark

-- where no block is going on one is tried; the other lines that are not blank are paragraphs, as many as stand together being one.
-- n further lines belong to a block; the line before belongs to a paragraph or not
unfoldable pub marks : Rules → ℕ → Bool → List Line → List Mark
marks ρ n paragraph [] = []
marks ρ (suc n) paragraph (l ∷ ls) = blockMore ∷ marks ρ n false ls
marks ρ zero paragraph (l ∷ ls) =
    choose (eqb (kindOf ρ l) 0)
    (λ _. choose (isBlank l.content) (λ _. blank ∷ marks ρ zero false ls)
    (λ _. choose paragraph (λ _. paragraphMore ∷ marks ρ zero true ls) (λ _. paragraphFirst ∷ marks ρ zero true ls)))
    (λ _. blockFirst (kindOf ρ l) (extentOf ρ (kindOf ρ l) l ls) ∷ marks ρ ((extentOf ρ (kindOf ρ l) l ls).lines - 1) false ls)

-- what a paragraph has behind its first line, without its last line ending
unfoldable pub goesOn : List Mark → List Line → List ℕ
goesOn [] ls = []
goesOn (blockFirst k e ∷ ms) ls = []
goesOn (blockMore ∷ ms) ls = []
goesOn (blank ∷ ms) ls = []
goesOn (paragraphFirst ∷ ms) ls = []
goesOn (paragraphMore ∷ ms) [] = []
goesOn (paragraphMore ∷ ms) (l ∷ ls) = l.lead ++ (l.content ++ goesOn ms ls)

-- ---- pieces
-- an inline piece, or a block with its kind and whether a closer was met
pub data Which : Type 0 where
  inline : Which
  block : ℕ → Bool → Which

pub record Piece : Type 0 where
  pub start : ℕ
  pub stop : ℕ
  pub which : Which

abbrev pub piece : ℕ → ℕ → Which → Piece
piece i j w = record { start = i; stop = j; which = w }

-- by what was read: none, or it with what is left behind it
abbrev pub byRead : Read → (Unit {0} → List Piece) → (List ℕ → List Piece) → List Piece
byRead (takes s k) none found = found s
byRead (lacks k) none found = none tt

-- SCOPE, Backslash before a tag: whether an odd run of backslashes stands behind x; odd: whether one stands before it
abbrev pub oddBehind : Bool → ℕ → Bool
oddBehind odd x = eqb x (byte "\\") && not odd

-- what begins with s is not tried behind an odd run of backslashes
abbrev pub tried : Rules → Bool → List ℕ → Read
tried ρ odd s = choose odd (λ _. lacks 0) (λ _. readInline ρ 0 s)

-- each `<` of a paragraph is tried, leftmost first, with carry 0, but those that follow an odd run of backslashes, counted back to the start of the paragraph or to
-- the last piece; the next one is looked for behind what was found. s begins at i and has at most n bytes; odd: whether an odd run stands just before s
unfoldable pub inlinePieces : Rules → ℕ → ℕ → Bool → List ℕ → List Piece
inlinePieces ρ zero i odd s = []
inlinePieces ρ (suc n) i odd [] = []
inlinePieces ρ (suc n) i odd (x ∷ xs) =
    byRead (tried ρ odd (x ∷ xs)) (λ _. inlinePieces ρ n (suc i) (oddBehind odd x) xs)
    (λ s. piece i (i + (length (x ∷ xs) - length s)) inline ∷ inlinePieces ρ n (i + (length (x ∷ xs) - length s)) false s)

-- of all lines, the first of which stands behind the index i; a block goes from the first byte of its first line to its stop
unfoldable pub linePieces : Rules → ℕ → List Mark → List Line → List Piece
linePieces ρ i [] ls = []
linePieces ρ i (m ∷ ms) [] = []
linePieces ρ i (blockFirst k e ∷ ms) (l ∷ ls) =
    piece (i + length l.lead) (stopAfter (i + length l.lead) e.lines (l ∷ ls)) (block k e.closed)
    ∷ linePieces ρ (i + length l.lead + length l.content) ms ls
linePieces ρ i (blockMore ∷ ms) (l ∷ ls) = linePieces ρ (i + length l.lead + length l.content) ms ls
linePieces ρ i (blank ∷ ms) (l ∷ ls) = linePieces ρ (i + length l.lead + length l.content) ms ls
linePieces ρ i (paragraphFirst ∷ ms) (l ∷ ls) =
    inlinePieces ρ (length (l.content ++ goesOn ms ls)) (i + length l.lead) false (l.content ++ goesOn ms ls)
    ++ linePieces ρ (i + length l.lead + length l.content) ms ls
linePieces ρ i (paragraphMore ∷ ms) (l ∷ ls) = linePieces ρ (i + length l.lead + length l.content) ms ls

abbrev pub piecesOf : Rules → List Line → List Piece
piecesOf ρ ls = linePieces ρ 0 (marks ρ 0 false ls) ls

-- the pieces of a bulletin, in text order
unfoldable pub pieces : Rules → List ℕ → List ℕ → List Piece
pieces ρ text flags = piecesOf ρ (linesOf flags text)

-- ---- what is shown
-- a piece holds the byte at i
abbrev pub holds : ℕ → Piece → Bool
holds i p = leb p.start i && ltb i p.stop

unfoldable pub isWithheld : ℕ → List Piece → Bool
isWithheld i [] = false
isWithheld i (p ∷ ps) = holds i p || isWithheld i ps

-- the bytes of s, which begins at i, that no piece holds
unfoldable pub outside : ℕ → List Piece → List ℕ → List ℕ
outside i ps [] = []
outside i ps (x ∷ xs) = choose (isWithheld i ps) (λ _. outside (suc i) ps xs) (λ _. x ∷ outside (suc i) ps xs)

unfoldable pub shown : Rules → List ℕ → List ℕ → List ℕ
shown ρ text flags = outside 0 (pieces ρ text flags) text

-- blocks and inline pieces are counted in one number
unfoldable pub count : Rules → List ℕ → List ℕ → ℕ
count ρ text flags = length (pieces ρ text flags)

-- the shown length and the count, or a refusal
pub data Shown : Type 0 where
  shows : ℕ → ℕ → Shown
  refusedShown : ℕ → Shown

-- a lent buffer afterwards: the output and the old entries past it, or on a refusal the old entries
unfoldable pub written : ℕ → List ℕ → List ℕ → List ℕ
written refusal output old = choose (eqb refusal 0) (λ _. output ++ drop (length output) old) (λ _. old)
