-- The block line by line, in the order of the code: each line begins where the content of the one before it ends. It need not be believed: no public contract cites
-- it, and proofs/BlockSteps.antt shows that it is the block of the rules.
use Rattle.std.specs.Prelude.{ℕ, List, leb, drop, Bool, ◌&&◌}
use Rattle.lexical.specs.Line.{isBlank}
use Rattle.rules.specs.Lines.{flagged}
use Rattle.rules.specs.Scan.{BlockAnswer, foundBlock}
use Rattle.rules.specs.declared.Rules.{Rules}
use Rattle.rules.proofs.Cut.{behind}
use Rattle.rules.proofs.BlockLaws.{goingOn}

-- an open block of kind k, with the place of its name, whose content so far ends at stop with no closer; number is the next line's
unfoldable pub continuationStartOf : Rules → ℕ → ℕ → List ℕ → List ℕ → ℕ → ℕ → BlockAnswer
continuationStartOf ρ k name text flags stop number = foundBlock (goingOn ρ k name stop (flagged (drop number flags) (behind (drop stop text))))

-- a blank line ends kinds 6 and 7
abbrev pub blankLineBefore : ℕ → List ℕ → Bool
blankLineBefore k content = leb 6 k && isBlank content
