-- Where the reading of the Rust and the standard's part: the places that are listed (SCOPE, The book's own reading) are complete.
use Rattle.std.specs.Prelude.{ℕ, ◌≡◌, Bool, true, false, ◌&&◌, ◌||◌, not, List, eqb, drop}
use Rattle.lexical.specs.Text.{bytes}
use Rattle.rules.specs.Reading.{Change, F1, F2, F3, F4, F5, F6, T1, T2, crate, standard}
use Rattle.rules.specs.Search.{begins, Left, left, nothing}
use Rattle.rules.specs.Tag.{inlineTags, openTag}
use Rattle.rules.specs.Scan.{InlineAnswer, foundInline, noInline, refusedInline, inlineScan, BlockAnswer, foundBlock, noBlock, refusedBlock, blockScan}
use Rattle.rules.specs.Changes.{Spares}
use Rattle.rules.specs.declared.Rules.{Rules}

-- the two readings of a scan give different answers; all that an answer says counts
abbrev pub Parts : {A : Type 0} → (Rules → A) → Type 0
Parts scan = ¬ (scan crate ≡ scan standard)

-- SCOPE: a change applies to a scan
abbrev pub Applies : {A : Type 0} → (Rules → A) → Change → Type 0
Applies scan c = ¬ (Spares scan c)

-- one of the eight applies to a scan whose readings part, at a place that is listed for it
pub record OneApplies {A : Type 0} (scan : Rules → A) (listed : A → A → Change → Bool) : Type 0 where
  pub change : Change
  pub applies : Applies scan change
  pub place : listed (scan crate) (scan standard) change ≡ true

-- ---- inline
abbrev pub isFoundInline : InlineAnswer → Bool
isFoundInline (foundInline s k) = true
isFoundInline (noInline k) = false
isFoundInline (refusedInline n k) = false

-- what was looked for is there
abbrev pub isThere : Left → Bool
isThere (left s) = true
isThere nothing = false

-- only the standard finds a tag: s is the text from the index on, a the answer of the Rust's reading, b the standard's
abbrev pub onlyStandardTag : List ℕ → InlineAnswer → InlineAnswer → Bool
onlyStandardTag s a b = not (isFoundInline a) && (isFoundInline b && isThere (openTag (inlineTags standard) s))

-- T1 where only the standard finds a tag, T2 at `<![`
abbrev pub inlineListed : List ℕ → InlineAnswer → InlineAnswer → Change → Bool
inlineListed s a b F1 = false
inlineListed s a b F2 = false
inlineListed s a b F3 = false
inlineListed s a b F4 = false
inlineListed s a b F5 = false
inlineListed s a b F6 = false
inlineListed s a b T1 = onlyStandardTag s a b
inlineListed s a b T2 = begins (bytes "<![") s

-- ---- blocks
-- the kind that is found, or 0
abbrev pub foundKind : BlockAnswer → ℕ
foundKind (foundBlock b) = b.kind
foundKind noBlock = 0
foundKind (refusedBlock n) = 0

-- only one finds kind 7, and the other finds none
abbrev pub onlyOneSeven : BlockAnswer → BlockAnswer → Bool
onlyOneSeven a b = (eqb (foundKind a) 7 && eqb (foundKind b) 0) || (eqb (foundKind a) 0 && eqb (foundKind b) 7)

-- both find kind 5
abbrev pub bothFive : BlockAnswer → BlockAnswer → Bool
bothFive a b = eqb (foundKind a) 5 && eqb (foundKind b) 5

-- F1 where both find kind 5, one of F2 to F6 where only one finds kind 7
abbrev pub blockListed : BlockAnswer → BlockAnswer → Change → Bool
blockListed a b F1 = bothFive a b
blockListed a b F2 = onlyOneSeven a b
blockListed a b F3 = onlyOneSeven a b
blockListed a b F4 = onlyOneSeven a b
blockListed a b F5 = onlyOneSeven a b
blockListed a b F6 = onlyOneSeven a b
blockListed a b T1 = false
blockListed a b T2 = false

-- wherever the two readings of one scan part, from the same index, flags and carry
pub record PlacesComplete : Type 0 where
  pub inline : (text : List ℕ) (index carry : ℕ) → Parts (λ ρ. inlineScan ρ text index carry) → OneApplies (λ ρ. inlineScan ρ text index carry) (inlineListed (drop index text))
  pub block : (text flags : List ℕ) (index : ℕ) → Parts (λ ρ. blockScan ρ text flags index) → OneApplies (λ ρ. blockScan ρ text flags index) blockListed
