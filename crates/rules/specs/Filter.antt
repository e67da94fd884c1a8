-- SCOPE, GitHub's tag filter: the Disallowed Raw HTML extension of the GitHub Flavored Markdown Spec (6.11), over the pieces that withholding takes.
use Rattle.std.specs.Prelude.{ℕ, suc, Bool, false, ◌&&◌, ◌||◌, List, [], ◌∷◌, ◌++◌, eqb, drop}
use Rattle.lexical.specs.Text.{bytes, first}
use Rattle.lexical.specs.Byte.{isWhitespace}
use Rattle.lexical.specs.Name.{isDisallowedName}
use Rattle.rules.specs.Search.{choose, begins}
use Rattle.rules.specs.Block.{nameOf, afterName}
use Rattle.rules.specs.Refusal.{bulletinRefusal, outputRefusal}
use Rattle.rules.specs.Withhold.{Which, inline, block, Piece, pieces, holds}
use Rattle.rules.specs.Output.{Wrote, writing}
use Rattle.rules.specs.declared.Rules.{Rules}

-- ---- tags
-- what follows the name in the bulletin: a space, a tab, a line ending, `>` or `/>`
abbrev pub endsTagName : List ℕ → Bool
endsTagName s = isWhitespace (first s) || (begins (bytes ">") s || begins (bytes "/>") s)

-- one of the nine names, and what follows it
abbrev pub disallowedName : List ℕ → Bool
disallowedName s = isDisallowedName (nameOf s) && endsTagName (afterName s)

-- `<`, an optional `/`, and such a name; s is the bulletin from an index on, so that what follows may stand beyond the stop of a block
unfoldable pub isDisallowed : List ℕ → Bool
isDisallowed s = (begins (bytes "<") s && disallowedName (drop 1 s)) || (begins (bytes "</") s && disallowedName (drop 2 s))

-- ---- places
-- inside a block every place counts; of an inline piece only its first byte can
abbrev pub countsIn : Which → ℕ → Piece → Bool
countsIn inline i p = eqb i p.start
countsIn (block k closed) i p = holds i p

unfoldable pub isCounted : ℕ → List Piece → Bool
isCounted i [] = false
isCounted i (p ∷ ps) = countsIn p.which i p || isCounted i ps

-- ---- what is shown
-- s, which begins at i, with `&lt;` for the `<` of each tag that counts; nothing else changes
unfoldable pub replaced : ℕ → List Piece → List ℕ → List ℕ
replaced i ps [] = []
replaced i ps (x ∷ xs) =
    choose (isCounted i ps && isDisallowed (x ∷ xs)) (λ _. bytes "&lt;" ++ replaced (suc i) ps xs) (λ _. x ∷ replaced (suc i) ps xs)

unfoldable pub filtered : Rules → List ℕ → List ℕ → List ℕ
filtered ρ text flags = replaced 0 (pieces ρ text flags) text

-- 1, 2, 3, then 7; room is the length of the output buffer
unfoldable pub filterRefusal : Rules → List ℕ → List ℕ → ℕ → ℕ
filterRefusal ρ text flags room = outputRefusal (bulletinRefusal text flags) room (filtered ρ text flags)

unfoldable pub filter : Rules → List ℕ → List ℕ → ℕ → Wrote
filter ρ text flags room = writing (filterRefusal ρ text flags room) (filtered ρ text flags)
