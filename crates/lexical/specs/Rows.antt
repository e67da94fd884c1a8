-- The examples of docs/SCOPE.md on points, lines and names, each a test, proved together by one computed fact.
use Rattle.std.specs.Prelude.{◌≡◌, ℕ, zero, suc, Bool, true, not, List, [], ◌∷◌, ◌==◌, slice_index, refl}
use Rattle.lexical.specs.Text.{byte, bytes, run}
use Rattle.lexical.specs.Line.{lineEnding, endsLine, lineEndings, lines, isBlank}
use Rattle.lexical.specs.Name.{all, chain, blockNames, rawNames, disallowedNames, sameBytes, isMember, isBlockName, isRawName, isDisallowedName, placeFrom, blockPlace, rawPlace, nameBytes, beginningWith, namesBelow, startsFrom, letterStarts, byLetter}
use Rattle.lexical.specs.Point.{point, tabReadings, tabRead, Action, lastReading, earlierReading, skipped, noByte, actionAt, moved}
use Rattle.lexical.specs.declared.event.Point.{Point}

-- what an action reads, and what is read after it at the same byte
abbrev pub reading : Action → List ℕ → List ℕ
reading (lastReading b) more = b ∷ []
reading (earlierReading b) more = b ∷ more
reading skipped more = []
reading noByte more = []

-- what the first byte of s is read as, in at most n readings
abbrev pub reads : ℕ → Point → List ℕ → List ℕ
reads zero p s = []
reads (suc n) p s = reading (actionAt p s) (reads n (moved p (actionAt p s)) s)

-- a text at a column is read as another
abbrev pub readAs : ℕ → List ℕ → List ℕ → Bool
readAs column s t = sameBytes (reads 5 (point 1 column 0 0) s) t

unfoldable pub rows : List Bool
unfolding tabReadings tabRead actionAt moved sameBytes isMember blockNames rawNames disallowedNames isBlockName isRawName isDisallowedName placeFrom blockPlace rawPlace nameBytes beginningWith namesBelow startsFrom letterStarts byLetter all chain lineEnding endsLine lineEndings lines isBlank run
rows =
    -- (P) a tab at column 1 has four readings, at column 4 one
    (tabReadings 1 == 4) ∷
    (tabReadings 4 == 1) ∷
    -- first as tab, then as spaces
    readAs 1 (bytes "\t") (bytes "\t   ") ∷
    readAs 4 (bytes "\t") (bytes "\t") ∷
    -- CR before LF is skipped; a lone CR reads as LF
    readAs 1 (bytes "\r\n") [] ∷
    readAs 1 (bytes "\ra") (bytes "\n") ∷
    -- (P) `search` is a block name; `source` is not
    isBlockName (bytes "search") ∷
    not (isBlockName (bytes "source")) ∷
    -- letter case does not matter
    isBlockName (bytes "bLockQuote") ∷
    isRawName (bytes "SCRIPT") ∷
    not (isRawName (bytes "scripts")) ∷
    -- the first and the last of each list, and no name of it
    (blockPlace (bytes "Address") == 0) ∷
    (blockPlace (bytes "ul") == 61) ∷
    (rawPlace (bytes "PRE") == 0) ∷
    (rawPlace (bytes "textarea") == 3) ∷
    (blockPlace (bytes "pre") == 255) ∷
    (rawPlace (bytes "div") == 255) ∷
    -- a name of GitHub's list, in any letter case, and none that is longer or of another list
    isDisallowedName (bytes "nOeMbEd") ∷
    isDisallowedName (bytes "TITLE") ∷
    not (isDisallowedName (bytes "titles")) ∷
    not (isDisallowedName (bytes "pre")) ∷
    not (isDisallowedName []) ∷
    -- the names of a letter, of the last that has any, and of one that has none
    sameBytes (nameBytes (beginningWith (byte "o") blockNames)) (bytes "oloptgroupoption") ∷
    sameBytes (nameBytes (beginningWith (byte "u") blockNames)) (bytes "ul") ∷
    sameBytes (nameBytes (beginningWith (byte "s") rawNames)) (bytes "scriptstyle") ∷
    sameBytes (nameBytes (beginningWith (byte "q") blockNames)) [] ∷
    -- where those of `t` begin and end
    (slice_index (letterStarts blockNames) 19 == 52) ∷
    (slice_index (letterStarts blockNames) 20 == 61) ∷
    -- within a letter any order will do; letters go up, in lower case
    byLetter (bytes "ab" ∷ bytes "aa" ∷ bytes "c" ∷ []) ∷
    not (byLetter (bytes "b" ∷ bytes "a" ∷ [])) ∷
    not (byLetter (bytes "A" ∷ [])) ∷
    not (byLetter ([] ∷ [])) ∷
    -- one line more than line endings; CR LF is one
    ((lines []) == 1) ∷
    (lines (bytes "a\r\nb\rc\n") == 4) ∷
    -- a line of only spaces and tabs is blank
    isBlank (bytes " \t\nx") ∷
    not (isBlank (bytes " \tx")) ∷
    []

pub rows-hold : all (λ b. b) rows ≡ true
unfolding rows all
rows-hold = refl
