-- Several private pieces in one bulletin (SCOPE, Several remarks swapped together).
use Rattle.std.specs.Prelude.{ℕ, ◌≡◌, Bool, true, false, ◌&&◌, List, [], ◌∷◌, ◌++◌, eqb, length}
use Rattle.lexical.specs.Text.{byte}
use Rattle.lexical.specs.Name.{all}
use Rattle.rules.specs.Refusal.{bulletinRefusal}
use Rattle.rules.specs.Withhold.{Piece, pieces}
use Rattle.rules.specs.Private.{isPrivate, Form, around, holdsBody, linesText, holdsLines, SameRuns}
use Rattle.rules.specs.declared.Rules.{Rules}

-- a passage of two bulletins: bytes that both have; a body with its opening and closer, and the body that takes its place; or whole lines, and those that do
pub data Passage : Type 0 where
  kept : List ℕ → Passage
  bodies : Form → (body₁ body₂ : List ℕ) → Passage
  wholeLines : (lines₁ lines₂ : List (List ℕ)) → Passage

-- what bulletin one has there, and bulletin two
abbrev pub inOne : Passage → List ℕ
inOne (kept s) = s
inOne (bodies form x y) = around form x
inOne (wholeLines x y) = linesText x

abbrev pub inTwo : Passage → List ℕ
inTwo (kept s) = s
inTwo (bodies form x y) = around form y
inTwo (wholeLines x y) = linesText y

-- a bulletin, passage by passage
unfoldable pub text : (Passage → List ℕ) → List Passage → List ℕ
text part [] = []
text part (p ∷ ps) = part p ++ text part ps

-- what is put in place of other bytes is private, as they are, and has as many lines
abbrev pub keepsPrivate : Passage → Bool
keepsPrivate (kept s) = true
keepsPrivate (bodies form x y) = all isPrivate x && all isPrivate y
keepsPrivate (wholeLines x y) = eqb (length x) (length y) && (all (all isPrivate) x && all (all isPrivate) y)

abbrev pub endsInLineFeed : List ℕ → Bool
endsInLineFeed [] = false
endsInLineFeed (x ∷ []) = eqb x (byte "\n")
endsInLineFeed (x ∷ y ∷ s) = endsInLineFeed (y ∷ s)

-- run one, with these pieces, withholds what it has there: a body with its opening and closer, whole lines within a closed block, the line before them ending in LF;
-- front is what bulletin one has before it
abbrev pub withholds : List Piece → List ℕ → Passage → Bool
withholds ps front (kept s) = true
withholds ps front (bodies form x y) = holdsBody ps front form x
withholds ps front (wholeLines x y) = endsInLineFeed front && holdsLines ps front x

unfoldable pub withholdsAll : List Piece → List ℕ → List Passage → Bool
withholdsAll ps front [] = true
withholdsAll ps front (p ∷ rest) = withholds ps front p && withholdsAll ps (front ++ inOne p) rest

-- bulletin two is bulletin one with any number of private pieces in place of others, which run one withholds. They share no byte, since each is a passage by itself
pub record Edition (ρ : Rules) (flags one two : List ℕ) : Type 0 where
  pub passages : List Passage
  pub one-is : one ≡ text inOne passages
  pub two-is : two ≡ text inTwo passages
  pub private : all keepsPrivate passages ≡ true
  pub withheld : withholdsAll (pieces ρ one flags) [] passages ≡ true

-- neither run is refused
abbrev pub EditionRuns : Rules → Type 0
EditionRuns ρ =
    (flags one two : List ℕ) → bulletinRefusal one flags ≡ 0 → bulletinRefusal two flags ≡ 0 → Edition ρ flags one two → SameRuns ρ flags one two
