-- The premises of privacy are needed: for each byte that is not private, two bulletins that differ in it and do not show alike; and lines and a body that run
-- one does not withhold. So is it that the numbers of a record fit their fields, and all of the room that suffices for a trace. Each table is proved by one
-- computed fact.
use Rattle.std.specs.Prelude.{ℕ, suc, ◌+◌, ◌*◌, ◌≡◌, refl, Bool, true, ◌&&◌, ◌||◌, not, List, [], ◌∷◌, ◌++◌, eqb, length}
use Rattle.lexical.specs.Text.{byte, bytes}
use Rattle.lexical.specs.Name.{all, sameBytes}
use Rattle.rules.specs.Reading.{crate, standard}
use Rattle.rules.specs.Scan.{inlineScan, blockScan}
use Rattle.rules.specs.Trace.{eventRecord, lastRecord, recordBytes, inlineTrace, blockTrace, recordAt}
use Rattle.rules.specs.Withhold.{pieces, holds, shown, count}
use Rattle.rules.specs.Private.{isPrivate, any, Form, comment, declaration, cdata}
use Rattle.rules.specs.Edition.{keepsPrivate, withholdsAll}
use Rattle.rules.specs.Computing.{computing}
use Rattle.rules.specs.Witness.{Row, body, whole, one, two, flags, consists, withheld, kind, said, asSaid, accepted, passagesOf}
use Rattle.rules.specs.declared.Rules.{Rules}

-- the two runs show the same bytes, and count the same
abbrev pub sameShown : Rules → Row → Bool
sameShown ρ r = sameBytes (shown ρ (one r) (flags r)) (shown ρ (two r) (flags r))

abbrev pub sameCount : Rules → Row → Bool
sameCount ρ r = eqb (count ρ (one r) (flags r)) (count ρ (two r) (flags r))

-- a byte, and a row whose premises would be met if it were private
pub data Excluded : Type 0 where
  excluded : ℕ → Row → Excluded

-- its row
abbrev pub rowOf : Excluded → Row
rowOf (excluded b r) = r

-- a declaration, whose closer is the last byte of every other closer
abbrev pub declared : Form
declared = declaration (byte "A") refl

unfoldable pub bodies : List Excluded
bodies =
    -- `</pre` and the closer end a block of kind 1
    excluded (byte "<") (body 1 (bytes "<pre>\n") declared (bytes "x") (bytes "</pre") (bytes "\nc"))
    ∷ excluded (byte ">") (body 0 (bytes "a ") comment (bytes "x") (bytes ">") [])
    -- the end of a quoted value
    ∷ excluded (byte "\"") (body 0 (bytes "a <b c=\"") comment (bytes "x") (bytes "\"") (bytes "\">"))
    ∷ excluded (byte "'") (body 0 (bytes "a <b c='") comment (bytes "x") (bytes "'") (bytes "'>"))
    -- with the closer they end the instruction, the CDATA section and the comment around it
    ∷ excluded (byte "?") (body 0 (bytes "a <? ") declared (bytes "x") (bytes "?") (bytes " ?>"))
    ∷ excluded (byte "]") (body 0 (bytes "a <![CDATA[ ") declared (bytes "x") (bytes "]]") (bytes " ]]>"))
    ∷ excluded (byte "-") (body 0 (bytes "a <!-- ") declared (bytes "x") (bytes "--") (bytes " -->"))
    -- a blank line ends the paragraph
    ∷ excluded (byte "\r") (body 0 (bytes "a ") comment (bytes "x\ry\rz") (bytes "\r\r") (bytes " b"))
    ∷ excluded (byte "\n") (body 0 (bytes "a ") comment (bytes "x\ny\nz") (bytes "\n\n") (bytes " b"))
    -- in whole lines `>` alone matters: every closer has it
    ∷ excluded (byte ">") (whole 4 (bytes "<!A") (bytes "x" ∷ []) (bytes ">" ∷ []) (bytes ">"))
    ∷ []

-- F1: of the Rust's reading, one `]` more makes the run odd
unfoldable pub brackets : List Excluded
brackets = excluded (byte "]") (body 5 [] cdata (bytes "x") (bytes "]") (bytes "\nc")) ∷ []

-- the runs differ; the byte is not private, and if it were, all premises would be met
abbrev pub needed : Rules → Excluded → Bool
needed ρ (excluded b r) =
    not (sameShown ρ r) && (not (isPrivate b) && (consists (λ x. isPrivate x || eqb x b) r && (asSaid ρ r && accepted r)))

pub bytes-needed : (all (needed crate) (brackets ++ bodies) && all (needed standard) bodies) ≡ true
unfolding computing bodies brackets
bytes-needed = refl

-- private lines that no block of kinds 1 to 5 encloses, but an inline piece or a block of kind 6 or 7 holds, which a blank line ends; and lines that are shown
unfoldable pub loose : List Row
loose =
    whole 0 (bytes "a <!--") (bytes "x" ∷ []) ([] ∷ []) (bytes "-->")
    ∷ whole 6 (bytes "<div>") (bytes "x" ∷ []) ([] ∷ []) (bytes "b")
    ∷ whole 7 (bytes "<i>") (bytes "x" ∷ []) ([] ∷ []) (bytes "b")
    ∷ []

abbrev pub bare : Row
bare = whole 0 (bytes "a") (bytes "x" ∷ []) (bytes "y" ∷ []) (bytes "b")

-- a piece of the kind that the row says holds the row's middle
abbrev pub middle : Row → ℕ
middle (body k b f x y a) = length b
middle (whole k b x y a) = suc (length b)

abbrev pub heldAs : Rules → Row → Bool
heldAs ρ r = any (λ p. holds (middle r) p && eqb (kind p.which) (said r)) (pieces ρ (one r) (flags r))

-- the runs differ; all premises are met but that a block encloses the lines
abbrev pub unheld : Rules → Row → Bool
unheld ρ r = not (sameShown ρ r) && (not (withheld ρ r) && (consists isPrivate r && accepted r))

pub enclosing-needed : (all (unheld crate) (bare ∷ loose) && (all (unheld standard) (bare ∷ loose) && all (heldAs crate) loose)) ≡ true
unfolding computing loose
enclosing-needed = refl

-- SCOPE, Backslash before a tag: a body whose opening follows an odd run of backslashes, and lies in no other piece, is shown; all other premises are met
abbrev pub escaped : Row
escaped = body 0 (bytes "a \\") comment (bytes "x") (bytes "y") []

pub withholding-needed : (unheld crate escaped && unheld standard escaped) ≡ true
unfolding computing
withholding-needed = refl

-- ---- several private pieces: the rows above, as passages, meet either premise alone, and so the other is needed
abbrev pub privateAlone : Rules → Row → Bool
privateAlone ρ r = all keepsPrivate (passagesOf r) && not (withholdsAll (pieces ρ (one r) (flags r)) [] (passagesOf r))

abbrev pub withheldAlone : Rules → Row → Bool
withheldAlone ρ r = withholdsAll (pieces ρ (one r) (flags r)) [] (passagesOf r) && not (all keepsPrivate (passagesOf r))

pub edition-premises-needed : (all (λ r. privateAlone crate r && privateAlone standard r) (escaped ∷ bare ∷ loose) && all (λ e. withheldAlone crate (rowOf e)) (brackets ++ bodies)) ≡ true
unfolding computing loose bodies brackets
edition-premises-needed = refl

-- the first body has to be private, too: its `</pre` ends a block, which goes on behind the second
abbrev pub ending : Row
ending = body 1 (bytes "<pre>\n") declared (bytes "</pre") (bytes "x") (bytes "\nc")

pub first-body-needed : (withheldAlone crate ending && not (sameShown crate ending)) ≡ true
unfolding computing
first-body-needed = refl

-- ---- the count
-- one piece becomes two: the bytes shown are the same, the count is not
abbrev pub counted : Row
counted = body 0 (bytes "a <?") declared (bytes "x") (bytes "?") (bytes "<?b?>")

pub count-tells : (sameShown crate counted && not (sameCount crate counted)) ≡ true
unfolding computing
count-tells = refl

-- ---- the right answer: in fields of two bytes a stop of 65,536, and an index, is read as another number
pub stop-cut : recordAt 2 (recordBytes 2 (lastRecord 13 65536 0)) ≡ lastRecord 13 0 0
unfolding computing
stop-cut = refl

pub index-cut : recordAt 2 (recordBytes 2 (eventRecord 9 1 1 65537 0)) ≡ eventRecord 9 1 1 1 0
unfolding computing
index-cut = refl

-- a block of three bytes and an inline piece of six need all the room that suffices
pub block-room-needed : length (blockTrace (bytes "<?\n") 0 (blockScan crate (bytes "<?\n") (0 ∷ 0 ∷ []) 0)) ≡ 28 * 3 + 6
unfolding computing
block-room-needed = refl

pub inline-room-needed : length (inlineTrace (bytes "<a\nb\n>") 0 (inlineScan crate (bytes "<a\nb\n>") 0 0)) ≡ 28 * 6 + 6
unfolding computing
inline-room-needed = refl
