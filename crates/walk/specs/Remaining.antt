-- The pieces that remain from a place of a bulletin on, in the order of the code. It need not be believed: of public contracts only those of `at_line` and
-- `next_piece` cite it, and those of the iterator through the pieces that are left (specs/Yields.antt); from the first line on they are the pieces of the rules
-- (`from-start` in proofs/Walk.antt).
use Rattle.std.specs.Prelude.{◌≡◌, Bool, true, false, ◌&&◌, ◌||◌, not, List, [], ◌∷◌, ◌++◌, ℕ, suc, ◌+◌, ◌<◌, ◌≤◌, eqb, length, get_or, take, drop, Option, Some, None, Result, Ok, Err}
use Rattle.lexical.specs.Text.{byte, pick}
use Rattle.lexical.specs.Line.{isInner, lineLength, isBlank}
use Rattle.rules.specs.Inline.{takes, lacks, readInline}
use Rattle.rules.specs.Lines.{Line, line, linesOf}
use Rattle.rules.specs.Block.{kindOf}
use Rattle.rules.specs.Scan.{Found as FoundBlock, foundBlock, blockOf}
use Rattle.rules.specs.Withhold.{Piece, Which, piece, inline, block, marks, oddBehind, inlinePieces, linePieces}
use Rattle.rules.specs.declared.Rules.{Rules}
use Rattle.rules.proofs.Cut.{lineFrom}
use Rattle.rules.proofs.LineLaws.{contentFrom}
use Rattle.walk.specs.Closer.{Known, allAhead}
use Rattle.walk.specs.declared.bulletin.Bulletin.{Bulletin}
use Rattle.walk.specs.declared.closers.Closers.{Closers}
use Rattle.walk.specs.declared.paragraph.End.{End}
use Rattle.walk.specs.declared.paragraph.Inlined.{Inlined}
use Rattle.walk.specs.declared.pieces.Piece.{Piece as Taken}
use Rattle.walk.specs.declared.pieces.Cursor.{Cursor}
use Rattle.walk.specs.declared.pieces.Next.{Next}
use Rattle.walk.specs.declared.pieces.Turn.{Turn}

-- ---- lines
-- a byte of a line that is no `<`
abbrev pub isPlain : ℕ → Bool
isPlain b = isInner (byte "<") b

-- the line at an index, with its number
abbrev pub lineAt : List ℕ → List ℕ → ℕ → ℕ → Line
lineAt text flags i n = line (get_or (drop n flags) 0 0) [] (contentFrom text i)

abbrev pub endsParagraph : Rules → Line → Bool
endsParagraph ρ l = isBlank l.content || not (eqb (kindOf ρ l) 0)

-- the pieces of the lines from an index on, outside blocks and paragraphs
unfoldable pub fromLine : Rules → List ℕ → List ℕ → ℕ → ℕ → List Piece
fromLine ρ text flags i n = linePieces ρ i (marks ρ 0 false (linesOf (drop n flags) (drop i text))) (linesOf (drop n flags) (drop i text))

-- a block that the line at an index opens, and the end of its last line
pub record BlockEndsAt (text flags : List ℕ) (i n stop : ℕ) (e : End) : Type 0 where
  pub to : e.stop ≤ length text
  pub pieces : (ρ : Rules) (b : FoundBlock) → b.stop ≡ stop → blockOf ρ i (linesOf (drop n flags) (drop i text)) ≡ foundBlock b
      → fromLine ρ text flags i n ≡ piece i stop (block b.kind b.closed) ∷ fromLine ρ text flags (lineFrom text e.stop) e.line

abbrev pub BlockEnd : Bulletin → ℕ → ℕ → ℕ → End → Type 0
BlockEnd b = BlockEndsAt b.text.now b.flags.now

-- ---- paragraphs
-- whether an odd run of backslashes stands behind u; odd: whether one stands before it
unfoldable pub oddAfter : Bool → List ℕ → Bool
oddAfter odd [] = odd
oddAfter odd (x ∷ u) = oddAfter (oddBehind odd x) u

-- how many bytes of s stand before the first `<` that is tried; odd: whether an odd run of backslashes stands just before s
unfoldable pub untried : Bool → List ℕ → ℕ
untried odd [] = 0
untried odd (x ∷ s) = pick (eqb x (byte "<") && not odd) 0 (suc (untried (oddBehind odd x) s))

-- the pieces of a paragraph from an index on
abbrev pub fromIndex : Rules → List ℕ → ℕ → List Piece
fromIndex ρ text i = inlinePieces ρ (length (drop i text)) i false (drop i text)

-- the end of a paragraph whose line stands at an index
pub record EndsAt (ρ : Rules) (text flags : List ℕ) (i n : ℕ) (e : End) : Type 0 where
  pub from : i + lineLength (drop i text) ≤ e.stop
  pub to : e.stop ≤ length text
  pub pieces : kindOf ρ (lineAt text flags i n) ≡ 0 → isBlank (contentFrom text i) ≡ false
      → fromLine ρ text flags i n ≡ fromIndex ρ (take e.stop text) i ++ fromLine ρ text flags (lineFrom text e.stop) e.line

abbrev pub ParagraphEnd : Bulletin → ℕ → ℕ → End → Type 0
ParagraphEnd b = EndsAt b.rules b.text.now b.flags.now

-- what is found at an index of a paragraph
pub record Took (ρ : Rules) (text : List ℕ) (i stop : ℕ) : Type 0 where
  pub from : i < stop
  pub to : stop ≤ length text
  pub carry : ℕ
  pub is : readInline ρ 0 (drop i text) ≡ takes (drop stop text) carry

pub record Lacked (ρ : Rules) (text : List ℕ) (i : ℕ) (c : Closers) : Type 0 where
  pub carry : ℕ
  pub is : readInline ρ 0 (drop i text) ≡ lacks carry
  pub known : Known c (drop (i + 1) text)

abbrev pub Attempt : Rules → List ℕ → ℕ → Result ℕ Closers → Type 0
Attempt ρ text i (Ok stop) = Took ρ text i stop
Attempt ρ text i (Err closers) = Lacked ρ text i closers

-- the next piece of a paragraph from an index on
pub record Onward (ρ : Rules) (text : List ℕ) (i : ℕ) (p : Inlined) : Type 0 where
  pub no-block : p.piece.block ≡ false
  pub is : fromIndex ρ text i ≡ piece p.piece.start p.piece.stop inline ∷ fromIndex ρ text p.piece.stop
  pub known : Known p.closers (drop p.piece.stop text)

abbrev pub NextInline : Rules → List ℕ → ℕ → Option Inlined → Type 0
NextInline ρ text i (Some p) = Onward ρ text i p
NextInline ρ text i None = fromIndex ρ text i ≡ []

-- ---- places
abbrev pub atLine : ℕ → ℕ → Cursor
atLine i n = record { index = 0; stop = 0; next = i; line = n; closers = allAhead }

unfoldable pub remaining : Rules → List ℕ → List ℕ → Cursor → List Piece
remaining ρ text flags c = fromIndex ρ (take c.stop text) c.index ++ fromLine ρ text flags c.next c.line

-- of a bulletin, from the line of a place on, and from the place on
abbrev pub fromLineOf : Bulletin → Cursor → List Piece
fromLineOf b c = fromLine b.rules b.text.now b.flags.now c.next c.line

abbrev pub fromPlace : Bulletin → Cursor → List Piece
fromPlace b = remaining b.rules b.text.now b.flags.now

-- what the place remembers of closers is so in what is left of its paragraph
pub record Valid (text : List ℕ) (c : Cursor) : Type 0 where
  pub known : Known c.closers (drop c.index (take c.stop text))

abbrev pub isBlock : Which → Bool
isBlock inline = false
isBlock (block k c) = true

-- p is the first of the pieces ps, and qs are the others
pub record Takes (ps : List Piece) (p : Taken) (qs : List Piece) : Type 0 where
  pub which : Which
  pub is-block : isBlock which ≡ p.block
  pub is : ps ≡ piece p.start p.stop which ∷ qs

-- the first of the pieces ps, and the place behind it
pub record Leads (ρ : Rules) (text flags : List ℕ) (ps : List Piece) (n : Next) : Type 0 where
  pub takes : Takes ps n.piece (remaining ρ text flags n.behind)
  pub valid : Valid text n.behind

-- of the pieces ps
abbrev pub Goes : Bulletin → List Piece → Option Next → Type 0
Goes b ps (Some n) = Leads b.rules b.text.now b.flags.now ps n
Goes b ps None = ps ≡ []

-- no piece, and a later place with the same pieces
pub record Same (ρ : Rules) (text flags : List ℕ) (c d : Cursor) : Type 0 where
  pub is : fromLine ρ text flags c.next c.line ≡ fromLine ρ text flags d.next d.line
  pub later : c.next < d.next

abbrev pub TurnBy : Bulletin → Cursor → Option Taken → Cursor → Type 0
TurnBy b c (Some p) d = Leads b.rules b.text.now b.flags.now (fromLineOf b c) (record { piece = p; behind = d })
TurnBy b c None d = Same b.rules b.text.now b.flags.now c d

abbrev pub TurnTo : Bulletin → Cursor → Turn → Type 0
TurnTo b c t = TurnBy b c t.piece t.behind

-- the line in front of which the place is opens a block that ends at stop
pub record Opens (b : Bulletin) (c : Cursor) (stop : ℕ) : Type 0 where
  pub found : FoundBlock
  pub stops : found.stop ≡ stop
  pub is : blockOf b.rules c.next (linesOf (drop c.line b.flags.now) (drop c.next b.text.now)) ≡ foundBlock found
