-- The right answer and privacy are no empty statements: readings that leave one change out, places where each change applies and where none does, traces that read back, and private
-- pieces that exist.
-- Each table is proved by one computed fact.
use Rattle.std.specs.Prelude.{ℕ, zero, suc, ◌+◌, ◌≡◌, refl, Bool, true, false, ◌&&◌, ◌||◌, not, List, [], ◌∷◌, ◌++◌, map, eqb, leb, length, replicate}
use Rattle.std.proofs.Common.{sym}
use Rattle.lexical.specs.Text.{byte, bytes, pick}
use Rattle.lexical.specs.Line.{lines}
use Rattle.lexical.specs.Name.{all, sameBytes}
use Rattle.rules.specs.Reading.{Change, F1, F2, F3, F4, F5, F6, T1, T2, crate, standard, without}
use Rattle.rules.specs.Refusal.{bulletinRefusal}
use Rattle.rules.specs.Scan.{inlineScan, blockScan}
use Rattle.rules.specs.Changes.{Spares, Unchanged}
use Rattle.rules.specs.Partings.{isFoundInline, inlineListed, foundKind, blockListed}
use Rattle.rules.specs.Trace.{wide, Record, eventRecord, lastRecord, refusedRecord, inlineTrace, blockTrace, readTrace}
use Rattle.rules.specs.Withhold.{Which, inline, block, Piece, pieces, shown}
use Rattle.rules.specs.Private.{isPrivate, any, Form, comment, instruction, declaration, cdata, around, spans, linesText, encloses, Swap, in-line, in-block, TwoRuns}
use Rattle.rules.specs.Edition.{Passage, kept, bodies, wholeLines, inOne, inTwo, text, keepsPrivate, withholdsAll, Edition, EditionRuns}
use Rattle.rules.specs.Rows.{sameBit, sameInline, sameBlock}
use Rattle.rules.specs.Computing.{computing}
use Rattle.rules.specs.declared.Rules.{Rules}

-- ---- the right answer: the eight changes
abbrev pub changes : List Change
changes = F1 ∷ F2 ∷ F3 ∷ F4 ∷ F5 ∷ F6 ∷ T1 ∷ T2 ∷ []

-- the place of a change in that list
abbrev pub number : Change → ℕ
number F1 = 1
number F2 = 2
number F3 = 3
number F4 = 4
number F5 = 5
number F6 = 6
number T1 = 7
number T2 = 8

-- what is proved of each of the eight
abbrev pub eight : (P : Change → Type 0) → P F1 → P F2 → P F3 → P F4 → P F5 → P F6 → P T1 → P T2 → (c : Change) → P c
eight P f1 f2 f3 f4 f5 f6 t1 t2 F1 = f1
eight P f1 f2 f3 f4 f5 f6 t1 t2 F2 = f2
eight P f1 f2 f3 f4 f5 f6 t1 t2 F3 = f3
eight P f1 f2 f3 f4 f5 f6 t1 t2 F4 = f4
eight P f1 f2 f3 f4 f5 f6 t1 t2 F5 = f5
eight P f1 f2 f3 f4 f5 f6 t1 t2 F6 = f6
eight P f1 f2 f3 f4 f5 f6 t1 t2 T1 = t1
eight P f1 f2 f3 f4 f5 f6 t1 t2 T2 = t2

-- whether a reading makes a change
abbrev pub makes : Rules → Change → Bool
makes ρ F1 = ρ.f1
makes ρ F2 = ρ.f2
makes ρ F3 = ρ.f3
makes ρ F4 = ρ.f4
makes ρ F5 = ρ.f5
makes ρ F6 = ρ.f6
makes ρ T1 = ρ.t1
makes ρ T2 = ρ.t2

-- of the eight, c and no other passes a test
abbrev pub only : Change → (Change → Bool) → Bool
only c test = all (λ d. sameBit (test d) (eqb (number c) (number d))) changes

-- the Rust makes all eight, the standard none, and `without c` all but c
unfoldable pub readings : List Bool
readings =
    all (makes crate) changes
    ∷ all (λ c. not (makes standard c)) changes
    ∷ all (λ c. only c (λ d. not (makes (without c) d))) changes
    ∷ []

pub readings-hold : all (λ b. b) readings ≡ true
unfolding computing readings
readings-hold = refl

-- a place of a scan, at index 0: a text with a carry, or a bulletin with its flags
pub data Place : Type 0 where
  inText : List ℕ → ℕ → Place
  inBulletin : List ℕ → List ℕ → Place

-- for each change a place where it applies
abbrev pub place : Change → Place
place F1 = inBulletin (bytes "<![CDATA[]]]>") (0 ∷ [])
place F2 = inBulletin (bytes "<a 1b>") (0 ∷ [])
place F3 = inBulletin (bytes "<pre/>") (0 ∷ [])
place F4 = inBulletin (bytes "<a b=c/d>") (0 ∷ [])
place F5 = inBulletin (bytes "<a b=c=d>") (0 ∷ [])
place F6 = inBulletin (bytes "<a>") (3 ∷ [])
place T1 = inText (bytes "<a b=c/d>") 0
place T2 = inText (bytes "<![ATA[q]]>") 2

-- places where none applies: a tag, a comment, a CDATA section, and blocks of kinds 5, 6 and 7
abbrev pub calm : List Place
calm =
    inText (bytes "<b>") 0
    ∷ inText (bytes "<!--x-->") 3
    ∷ inText (bytes "<![CDATA[x]]>") 0
    ∷ inBulletin (bytes "<![CDATA[x]]>\ny") (0 ∷ 0 ∷ [])
    ∷ inBulletin (bytes "<div>\nx") (0 ∷ 2 ∷ [])
    ∷ inBulletin (bytes "<a b='c'>\nx") (0 ∷ 0 ∷ [])
    ∷ []

-- two readings give the same answer
abbrev pub agree : Place → Rules → Rules → Bool
agree (inText text k) ρ σ = sameInline (inlineScan ρ text 0 k) (inlineScan σ text 0 k)
agree (inBulletin text flags) ρ σ = sameBlock (blockScan ρ text flags 0) (blockScan σ text flags 0)

-- something is found
abbrev pub finds : Place → Rules → Bool
finds (inText text k) ρ = isFoundInline (inlineScan ρ text 0 k)
finds (inBulletin text flags) ρ = not (eqb (foundKind (blockScan ρ text flags 0)) 0)

-- a change applies, no other does, and the answer is not the standard's
abbrev pub appliesAlone : Change → Place → Bool
appliesAlone c p = only c (λ d. not (agree p crate (without d))) && not (agree p crate standard)

-- none applies, and something is found
abbrev pub noneApplies : Place → Bool
noneApplies p = all (λ c. agree p crate (without c)) changes && finds p crate

pub each-applies : (c : Change) → appliesAlone c (place c) ≡ true
unfolding computing
each-applies = eight (λ c. appliesAlone c (place c) ≡ true) refl refl refl refl refl refl refl refl

-- SCOPE, Where the closer stands: the closer is part of the answer, so F1 applies, and alone, also where nothing but the closer differs
abbrev pub closerPlace : Place
closerPlace = inBulletin (bytes "<![CDATA[]]]>]]>") (0 ∷ [])

pub closer-applies : appliesAlone F1 closerPlace ≡ true
unfolding computing
closer-applies = refl

-- SCOPE, The book's own reading: a change is listed for a place
abbrev pub isListed : Place → Change → Bool
isListed (inText text k) c = inlineListed text (inlineScan crate text 0 k) (inlineScan standard text 0 k) c
isListed (inBulletin text flags) c = blockListed (blockScan crate text flags 0) (blockScan standard text flags 0) c

-- which of the four places it is: both find kind 5, only one finds kind 7, only the standard finds a tag, at `<![`
abbrev pub clause : Change → ℕ
clause F1 = 1
clause F2 = 2
clause F3 = 2
clause F4 = 2
clause F5 = 2
clause F6 = 2
clause T1 = 3
clause T2 = 4

-- at the place of each change, where the readings part, just those of its clause are listed
pub each-listed : (c : Change) → all (λ d. sameBit (isListed (place c) d) (eqb (clause c) (clause d))) changes ≡ true
unfolding computing
each-listed = eight (λ c. all (λ d. sameBit (isListed (place c) d) (eqb (clause c) (clause d))) changes ≡ true) refl refl refl refl refl refl refl refl

-- where only the closer differs, F1 is listed
pub closer-listed : isListed closerPlace F1 ≡ true
unfolding computing
closer-listed = refl

pub none-there : all noneApplies calm ≡ true
unfolding computing
none-there = refl

-- and as the statement has it: every change is spared
pub spares-tag : (c : Change) → Spares (λ ρ. inlineScan ρ (bytes "<b>") 0 0) c
unfolding computing
spares-tag = eight (Spares (λ ρ. inlineScan ρ (bytes "<b>") 0 0)) refl refl refl refl refl refl refl refl

-- what the statement on the changes says is not so of every answer: two changes can stand in for each other, so that neither applies
pub not-of-all : Unchanged (λ ρ. ρ.f1 || ρ.f2) → true ≡ false
not-of-all same = same (eight (Spares (λ ρ. ρ.f1 || ρ.f2)) refl refl refl refl refl refl refl refl)

-- ---- the right answer: traces
-- what a trace says, read by the first numbers
abbrev pub readBy : List ℕ → List ℕ → List Record
readBy numbers trace = map (λ n. readTrace wide n trace) numbers

-- the trace of `<b>`, and one of a block whose spaces have a pair of their own; behind the last record there is none
pub tag-read : readBy (0 ∷ 1 ∷ 2 ∷ 3 ∷ 4 ∷ 5 ∷ []) (inlineTrace (bytes "<b>") 0 (inlineScan crate (bytes "<b>") 0 0))
    ≡ eventRecord 7 1 1 0 0 ∷ eventRecord 9 1 1 0 0 ∷ eventRecord 10 1 4 3 0 ∷ eventRecord 8 1 4 3 0 ∷ lastRecord 13 3 0 ∷ refusedRecord 9 ∷ []
unfolding computing
tag-read = refl

pub block-read : readBy (0 ∷ 2 ∷ 3 ∷ 5 ∷ 6 ∷ 7 ∷ 9 ∷ 10 ∷ 11 ∷ []) (blockTrace (bytes " <?\n\t?>") 0 (blockScan crate (bytes " <?\n\t?>") (0 ∷ 0 ∷ []) 0))
    ≡ eventRecord 1 1 1 0 0 ∷ eventRecord 4 1 2 1 0 ∷ eventRecord 3 1 2 1 0 ∷ eventRecord 5 1 4 3 0 ∷ eventRecord 6 2 1 4 0 ∷ eventRecord 3 2 1 4 0
    ∷ eventRecord 2 2 7 7 0 ∷ lastRecord 14 7 3 ∷ refusedRecord 9 ∷ []
unfolding computing
block-read = refl

-- ---- privacy: private pieces
-- how many bytes below n are private
abbrev pub privates : ℕ → ℕ
privates zero = 0
privates (suc n) = pick (isPrivate n) 1 0 + privates n

-- all bytes but nine
pub all-but-nine : privates 256 ≡ 247
all-but-nine = refl

-- SCOPE: the bytes between `<!--` and `-->`, `<?` and `?>`, `<!` with a letter and `>`, or `<![CDATA[` and `]]>`
unfoldable pub forms : List Bool
forms =
    sameBytes (around comment (bytes "x")) (bytes "<!--x-->")
    ∷ sameBytes (around instruction (bytes "x")) (bytes "<?x?>")
    ∷ sameBytes (around (declaration (byte "A") refl) (bytes "x")) (bytes "<!Ax>")
    ∷ sameBytes (around cdata (bytes "x")) (bytes "<![CDATA[x]]>")
    ∷ []

pub forms-hold : all (λ b. b) forms ≡ true
unfolding computing forms
forms-hold = refl

-- a swap of bodies and one of lines, written out
pub comment-swap : Swap crate (0 ∷ []) (bytes "a <!--x y--> b") (bytes "a <!--xyz=/--> b")
unfolding computing
comment-swap =
    in-line
    (record { before = bytes "a "; form = comment; body₁ = bytes "x y"; body₂ = bytes "xyz=/"; after = bytes " b"; private₁ = refl; private₂ = refl; one-is = refl; two-is = refl })
    refl

pub lines-swap : Swap crate (0 ∷ 0 ∷ 0 ∷ 0 ∷ []) (bytes "<!--\na\n\n-->") (bytes "<!--\nbc d\ne\n-->")
unfolding computing
lines-swap =
    in-block
    (record { before = bytes "<!--"; lines₁ = bytes "a" ∷ [] ∷ []; lines₂ = bytes "bc d" ∷ bytes "e" ∷ []; after = bytes "-->"; same-number = refl; private₁ = refl; private₂ = refl; one-is = refl; two-is = refl })
    refl

-- what privacy then gives: whatever private bytes a remark has, the same is shown
abbrev pub remark : List ℕ → List ℕ
remark s = bytes "a " ++ (around comment s ++ bytes " b")

pub any-remark : TwoRuns crate → (s : List ℕ) → all isPrivate s ≡ true → bulletinRefusal (remark s) (0 ∷ []) ≡ 0
    → shown crate (remark s) (0 ∷ []) ≡ bytes "a  b"
unfolding computing
any-remark runs s private accepts =
    let swap : Swap crate (0 ∷ []) (remark []) (remark s) = in-line (record { before = bytes "a "; form = comment; body₁ = []; body₂ = s; after = bytes " b"; private₁ = refl; private₂ = private; one-is = refl; two-is = refl }) refl in
    sym (runs (0 ∷ []) (remark []) (remark s) refl accepts swap).same-bytes

-- a swap by its parts, with what holds the private piece: 0 for an inline piece, or the kind of the block
pub data Row : Type 0 where
  body : (holder : ℕ) (before : List ℕ) (form : Form) (body₁ body₂ after : List ℕ) → Row
  whole : (holder : ℕ) (before : List ℕ) (lines₁ lines₂ : List (List ℕ)) (after : List ℕ) → Row

-- the two bulletins
abbrev pub one : Row → List ℕ
one (body k b f x y a) = b ++ (around f x ++ a)
one (whole k b x y a) = (b ++ (byte "\n" ∷ [])) ++ (linesText x ++ a)

abbrev pub two : Row → List ℕ
two (body k b f x y a) = b ++ (around f y ++ a)
two (whole k b x y a) = (b ++ (byte "\n" ∷ [])) ++ (linesText y ++ a)

-- all flags 0
abbrev pub flags : Row → List ℕ
flags r = replicate (lines (one r)) 0

-- both pieces pass a test of bytes, and there are as many lines
abbrev pub consists : (ℕ → Bool) → Row → Bool
consists test (body k b f x y a) = all test x && all test y
consists test (whole k b x y a) = eqb (length x) (length y) && (all (all test) x && all (all test) y)

-- a piece of bulletin one holds the private one
abbrev pub enfolds : Row → Piece → Bool
enfolds (body k b f x y a) = spans (length b) (length (b ++ around f x))
enfolds (whole k b x y a) = encloses (length (b ++ (byte "\n" ∷ []))) (length ((b ++ (byte "\n" ∷ [])) ++ linesText x))

abbrev pub withheld : Rules → Row → Bool
withheld ρ r = any (enfolds r) (pieces ρ (one r) (flags r))

-- and is of the kind that the row says
abbrev pub kind : Which → ℕ
kind inline = 0
kind (block k c) = k

abbrev pub said : Row → ℕ
said (body k b f x y a) = k
said (whole k b x y a) = k

abbrev pub asSaid : Rules → Row → Bool
asSaid ρ r = any (λ p. enfolds r p && eqb (kind p.which) (said r)) (pieces ρ (one r) (flags r))

-- neither run is refused
abbrev pub accepted : Row → Bool
accepted r = eqb (bulletinRefusal (one r) (flags r)) 0 && eqb (bulletinRefusal (two r) (flags r)) 0

-- the premises of privacy
abbrev pub meets : Rules → Row → Bool
meets ρ r = consists isPrivate r && withheld ρ r

unfoldable pub swaps : List Row
swaps =
    -- each form, with bodies of other lengths, and an empty one
    body 0 (bytes "a ") comment (bytes "x y") (bytes "xyz=/") (bytes " b")
    ∷ body 0 (bytes "a ") instruction (bytes "x") (bytes "xy") []
    ∷ body 0 (bytes "a ") (declaration (byte "A") refl) (bytes "xy") (bytes " x") []
    ∷ body 0 (bytes "a ") cdata (bytes "&amp;") (bytes "[") (bytes "b")
    ∷ body 0 (bytes "a ") comment [] (bytes "x") []
    ∷ body 0 (bytes "a ") comment (bytes "x") [] []
    -- not the first piece
    ∷ body 0 (bytes "<b> a ") comment (bytes "x") (bytes "yz") []
    -- in a quoted value of a tag
    ∷ body 0 (bytes "a <b c=\"") comment (bytes "x") (bytes "yz") (bytes "\">")
    -- a body that ends in a backslash; behind a backslash, in a quoted value
    ∷ body 0 (bytes "a ") comment (bytes "x\\") (bytes "\\") (bytes "<b>")
    ∷ body 0 (bytes "a <b c=\"\\") comment (bytes "x\\") (bytes "y") (bytes "\">")
    -- in a block: as the whole of one, and among the lines of another
    ∷ body 2 [] comment (bytes "x") (bytes "yz") []
    ∷ body 2 (bytes "<!--\n") instruction (bytes "x") (bytes "yz") (bytes "\n-->")
    ∷ body 6 (bytes "<div>\n") comment (bytes "x") (bytes "yz") []
    ∷ body 7 (bytes "<i>\n") comment (bytes "x") (bytes "yz") []
    -- lines of each kind, two against two, and none
    ∷ whole 1 (bytes "<pre>") (bytes "x" ∷ []) (bytes "y z" ∷ []) (bytes "</pre>")
    ∷ whole 2 (bytes "<!--") (bytes "x" ∷ []) (bytes "y z" ∷ []) (bytes "-->")
    ∷ whole 3 (bytes "<?") (bytes "x" ∷ []) (bytes "y z" ∷ []) (bytes "?>")
    ∷ whole 4 (bytes "<!A") (bytes "x" ∷ []) (bytes "y z" ∷ []) (bytes ">")
    ∷ whole 5 (bytes "<![CDATA[") (bytes "x" ∷ []) (bytes "y z" ∷ []) (bytes "]]>")
    ∷ whole 2 (bytes "a <b>\n<!-- c") (bytes "x" ∷ [] ∷ []) (bytes "y z" ∷ bytes "=" ∷ []) (bytes "d --> e\nf")
    ∷ whole 2 (bytes "<!--") [] [] (bytes "-->")
    ∷ []

-- every row is a swap, in the reading of the Rust and in the standard one
pub swaps-meet : (all (meets crate) swaps && all (meets standard) swaps) ≡ true
unfolding computing swaps
swaps-meet = refl

-- neither run of a row is refused, and the piece is held as the row says
pub swaps-accepted : all (λ r. accepted r && (asSaid crate r && asSaid standard r)) swaps ≡ true
unfolding computing swaps
swaps-accepted = refl

-- ---- privacy: several private pieces
-- two bodies and two pieces of lines that touch, written out
pub edition : Edition crate (replicate 7 0) (bytes "a<!--x--><?y?>\n\n<!--\nx\ny\n-->") (bytes "a<!----><?zz?>\n\n<!--\n\nw w\n-->")
unfolding computing
edition =
    record {
      passages =
          kept (bytes "a")
          ∷ bodies comment (bytes "x") []
          ∷ bodies instruction (bytes "y") (bytes "zz")
          ∷ kept (bytes "\n\n<!--\n")
          ∷ wholeLines (bytes "x" ∷ []) ([] ∷ [])
          ∷ wholeLines (bytes "y" ∷ []) (bytes "w w" ∷ [])
          ∷ kept (bytes "-->")
          ∷ [];
      one-is = refl;
      two-is = refl;
      private = refl;
      withheld = refl;
    }

-- what privacy then gives: whatever private bytes two remarks have, the same is shown
abbrev pub remarks : List ℕ → List ℕ → List Passage
remarks s t = kept (bytes "a ") ∷ bodies comment [] s ∷ kept (bytes " b ") ∷ bodies comment [] t ∷ []

both-true : (a b : Bool) → a ≡ true → b ≡ true → (a && (b && true)) ≡ true
both-true true true h k = refl
both-true true false h k = k
both-true false b h k = h

pub any-remarks : EditionRuns crate → (s t : List ℕ) → all isPrivate s ≡ true → all isPrivate t ≡ true → bulletinRefusal (text inTwo (remarks s t)) (0 ∷ []) ≡ 0
    → shown crate (text inTwo (remarks s t)) (0 ∷ []) ≡ bytes "a  b "
unfolding computing
any-remarks runs s t private-s private-t accepts =
    let e : Edition crate (0 ∷ []) (text inOne (remarks s t)) (text inTwo (remarks s t)) =
    record { passages = remarks s t; one-is = refl; two-is = refl; private = both-true (all isPrivate s) (all isPrivate t) private-s private-t; withheld = refl } in
    sym (runs (0 ∷ []) (text inOne (remarks s t)) (text inTwo (remarks s t)) refl accepts e).same-bytes

-- a row above, with its one piece
abbrev pub passagesOf : Row → List Passage
passagesOf (body k b f x y a) = kept b ∷ bodies f x y ∷ kept a ∷ []
passagesOf (whole k b x y a) = kept (b ++ (byte "\n" ∷ [])) ∷ wholeLines x y ∷ kept a ∷ []

-- all flags 0
abbrev pub zeros : List Passage → List ℕ
zeros ps = replicate (lines (text inOne ps)) 0

-- the premises of privacy
abbrev pub isEdition : Rules → List Passage → Bool
isEdition ρ ps = all keepsPrivate ps && withholdsAll (pieces ρ (text inOne ps) (zeros ps)) [] ps

-- neither run is refused
abbrev pub areAccepted : List Passage → Bool
areAccepted ps = eqb (bulletinRefusal (text inOne ps) (zeros ps)) 0 && eqb (bulletinRefusal (text inTwo ps) (zeros ps)) 0

-- how many pieces are put in place of others
abbrev pub swapped : List Passage → ℕ
swapped [] = 0
swapped (kept s ∷ ps) = swapped ps
swapped (bodies f x y ∷ ps) = suc (swapped ps)
swapped (wholeLines x y ∷ ps) = suc (swapped ps)

unfoldable pub editions : List (List Passage)
editions =
    -- two bodies in a paragraph: an empty one that becomes long, and a long one that becomes empty, so that the bulletin on the way is longer than both
    (kept (bytes "a ") ∷ bodies comment [] (bytes "xyz =/") ∷ kept (bytes " b ") ∷ bodies comment (bytes "xyz =/") [] ∷ [])
    -- all four forms, one right behind the other
    ∷ (bodies instruction (bytes "x") (bytes "yz")
    ∷ bodies (declaration (byte "A") refl) (bytes " x") (bytes "x")
    ∷ bodies cdata (bytes "x") []
    ∷ bodies comment (bytes "x") (bytes "\\")
    ∷ kept (bytes "a")
    ∷ [])
    -- in one tag's quoted value, the second behind a backslash
    ∷ (kept (bytes "a <b c=\"") ∷ bodies comment (bytes "x") (bytes "yz\\") ∷ kept (bytes " \\") ∷ bodies cdata (bytes "x") [] ∷ kept (bytes "\"> b") ∷ [])
    -- in a paragraph, and in blocks of kinds 6 and 7
    ∷ (kept (bytes "<b> ")
    ∷ bodies comment (bytes "x") (bytes "yz")
    ∷ kept (bytes "\n<div>\n")
    ∷ bodies comment (bytes "x") []
    ∷ kept (bytes "\n\n<i>\n")
    ∷ bodies instruction (bytes "x") (bytes "yz")
    ∷ [])
    -- lines and a body in one block, and lines behind it
    ∷ (kept (bytes "<!--\n")
    ∷ wholeLines (bytes "x" ∷ []) (bytes "y z" ∷ [])
    ∷ bodies instruction (bytes "x") []
    ∷ kept (bytes "\n")
    ∷ wholeLines (bytes "x" ∷ [] ∷ []) ([] ∷ bytes "y" ∷ [])
    ∷ kept (bytes "-->")
    ∷ [])
    -- lines right behind others, and none
    ∷ (kept (bytes "<pre>\n")
    ∷ wholeLines (bytes "x" ∷ []) ([] ∷ [])
    ∷ wholeLines [] []
    ∷ wholeLines (bytes "y" ∷ []) (bytes "w w" ∷ [])
    ∷ kept (bytes "</pre>\na")
    ∷ [])
    -- lines in two blocks, and a body in the paragraph between
    ∷ (kept (bytes "<?\n")
    ∷ wholeLines (bytes "x" ∷ []) (bytes "yz" ∷ [])
    ∷ kept (bytes "?>\na ")
    ∷ bodies cdata (bytes "x") (bytes "[")
    ∷ kept (bytes "\n<!A\n")
    ∷ wholeLines (bytes "x" ∷ []) ([] ∷ [])
    ∷ kept (bytes ">\nb")
    ∷ [])
    ∷ []

-- every row is an edition, of two pieces or more, in the reading of the Rust and in the standard one, and neither run is refused
pub editions-meet : (all (isEdition crate) editions && (all (isEdition standard) editions && all (λ ps. leb 2 (swapped ps) && areAccepted ps) editions)) ≡ true
unfolding computing editions
editions-meet = refl

-- and so is each row of one piece
pub swaps-are-editions : all (λ r. isEdition crate (passagesOf r) && isEdition standard (passagesOf r)) swaps ≡ true
unfolding computing swaps
swaps-are-editions = refl
