-- Private pieces and the statement of privacy (SCOPE, Private pieces).
use Rattle.std.specs.Prelude.{ℕ, ◌≡◌, Bool, true, false, ◌&&◌, ◌||◌, not, List, [], ◌∷◌, ◌++◌, eqb, leb, ltb, length}
use Rattle.lexical.specs.Text.{byte, bytes}
use Rattle.lexical.specs.Byte.{isLetter, isQuote, isLineEndingByte}
use Rattle.lexical.specs.Name.{all}
use Rattle.rules.specs.Refusal.{bulletinRefusal}
use Rattle.rules.specs.Withhold.{Which, inline, block, Piece, pieces, shown, count}
use Rattle.rules.specs.declared.Rules.{Rules}

-- private bytes exclude `<`, `>`, `"`, `'`, `?`, `]`, `-`, CR and LF
abbrev pub isPrivate : ℕ → Bool
isPrivate b =
    not (eqb b (byte "<") || (eqb b (byte ">") || (isQuote b || (eqb b (byte "?") || (eqb b (byte "]") || (eqb b (byte "-") || isLineEndingByte b))))))

-- some entry passes a test
unfoldable pub any : {A : Type 0} → (A → Bool) → List A → Bool
any f [] = false
any f (x ∷ xs) = f x || any f xs

-- ---- inline: the body of a comment, an instruction, a declaration behind its letter, or a CDATA section
pub data Form : Type 0 where
  comment : Form
  instruction : Form
  declaration : (letter : ℕ) → isLetter letter ≡ true → Form
  cdata : Form

abbrev pub opening : Form → List ℕ
opening comment = bytes "<!--"
opening instruction = bytes "<?"
opening (declaration letter h) = bytes "<!" ++ (letter ∷ [])
opening cdata = bytes "<![CDATA["

abbrev pub closer : Form → List ℕ
closer comment = bytes "-->"
closer instruction = bytes "?>"
closer (declaration letter h) = bytes ">"
closer cdata = bytes "]]>"

-- a body with its opening and closer; it shares no byte with them
abbrev pub around : Form → List ℕ → List ℕ
around form body = opening form ++ (body ++ closer form)

-- bulletin two is bulletin one with the second body in place of the first; they may differ in length
pub record InlineSwap (one two : List ℕ) : Type 0 where
  pub before : List ℕ
  pub form : Form
  pub body₁ : List ℕ
  pub body₂ : List ℕ
  pub after : List ℕ
  pub private₁ : all isPrivate body₁ ≡ true
  pub private₂ : all isPrivate body₂ ≡ true
  pub one-is : one ≡ before ++ (around form body₁ ++ after)
  pub two-is : two ≡ before ++ (around form body₂ ++ after)

-- a piece holds the bytes from one index to another
abbrev pub spans : ℕ → ℕ → Piece → Bool
spans i j p = leb p.start i && leb j p.stop

-- a single block or inline piece holds the whole of a body, opening and closer included; front stands before it
abbrev pub holdsBody : List Piece → List ℕ → Form → List ℕ → Bool
holdsBody ps front form body = any (spans (length front) (length (front ++ around form body))) ps

-- run one withholds it
abbrev pub WithheldBody : Rules → List ℕ → {one two : List ℕ} → InlineSwap one two → Type 0
WithheldBody ρ flags {one} d = holdsBody (pieces ρ one flags) d.before d.form d.body₁ ≡ true

-- ---- block: whole lines, each ending in LF, as does the line before
abbrev pub linesText : List (List ℕ) → List ℕ
linesText [] = []
linesText (c ∷ cs) = c ++ (byte "\n" ∷ linesText cs)

pub record LinesSwap (one two : List ℕ) : Type 0 where
  pub before : List ℕ
  pub lines₁ : List (List ℕ)
  pub lines₂ : List (List ℕ)
  pub after : List ℕ
  pub same-number : length lines₁ ≡ length lines₂
  pub private₁ : all (all isPrivate) lines₁ ≡ true
  pub private₂ : all (all isPrivate) lines₂ ≡ true
  pub one-is : one ≡ (before ++ (byte "\n" ∷ [])) ++ (linesText lines₁ ++ after)
  pub two-is : two ≡ (before ++ (byte "\n" ∷ [])) ++ (linesText lines₂ ++ after)

-- a block of kinds 1 to 5 with a closing line, its last
abbrev pub isClosed : Which → Bool
isClosed inline = false
isClosed (block k closed) = leb k 5 && closed

-- strictly between the first line of such a block, which begins before, and its last, which stands behind
abbrev pub encloses : ℕ → ℕ → Piece → Bool
encloses i j p = isClosed p.which && (ltb p.start i && leb j p.stop)

-- such a block has the lines there; front stands before them
abbrev pub holdsLines : List Piece → List ℕ → List (List ℕ) → Bool
holdsLines ps front lines = any (encloses (length front) (length (front ++ linesText lines))) ps

-- run one withholds them
abbrev pub WithheldLines : Rules → List ℕ → {one two : List ℕ} → LinesSwap one two → Type 0
WithheldLines ρ flags {one} d = holdsLines (pieces ρ one flags) (d.before ++ (byte "\n" ∷ [])) d.lines₁ ≡ true

-- ---- privacy
-- one private piece that run one withholds
pub data Swap (ρ : Rules) (flags one two : List ℕ) : Type 0 where
  in-line : (d : InlineSwap one two) → WithheldBody ρ flags d → Swap ρ flags one two
  in-block : (d : LinesSwap one two) → WithheldLines ρ flags d → Swap ρ flags one two

-- the same bytes, length and count are shown
pub record SameRuns (ρ : Rules) (flags one two : List ℕ) : Type 0 where
  pub same-bytes : shown ρ one flags ≡ shown ρ two flags
  pub same-length : length (shown ρ one flags) ≡ length (shown ρ two flags)
  pub same-count : count ρ one flags ≡ count ρ two flags

-- neither run is refused
abbrev pub TwoRuns : Rules → Type 0
TwoRuns ρ =
    (flags one two : List ℕ) → bulletinRefusal one flags ≡ 0 → bulletinRefusal two flags ≡ 0 → Swap ρ flags one two → SameRuns ρ flags one two
