-- The two scans and their answers, SCOPE, What is read and given.
use Rattle.std.specs.Prelude.{ℕ, ◌-◌, Bool, List, [], ◌∷◌, eqb, length, take, drop}
use Rattle.lexical.specs.Line.{lineEndings}
use Rattle.rules.specs.Search.{choose}
use Rattle.rules.specs.Inline.{Read, takes, lacks, readInline}
use Rattle.rules.specs.Lines.{Line, linesOf}
use Rattle.rules.specs.Block.{Extent, kindOf, placeOf, extentOf, stopAfter, closerAfter}
use Rattle.rules.specs.Refusal.{inlineRefusal, blockRefusal}
use Rattle.rules.specs.declared.Rules.{Rules}

-- found with stop and carry, or none with carry; a refusal keeps the carry passed in
pub data InlineAnswer : Type 0 where
  foundInline : ℕ → ℕ → InlineAnswer
  noInline : ℕ → InlineAnswer
  refusedInline : ℕ → ℕ → InlineAnswer

-- a stop is the index after the last byte taken: the length n of the text less what is left
abbrev pub inlineAnswer : ℕ → Read → InlineAnswer
inlineAnswer n (takes s k) = foundInline (n - length s) k
inlineAnswer n (lacks k) = noInline k

-- the scan with no check
unfoldable pub inlineAt : Rules → List ℕ → ℕ → ℕ → InlineAnswer
inlineAt ρ text i k = inlineAnswer (length text) (readInline ρ k (drop i text))

abbrev pub refuseInline : ℕ → ℕ → InlineAnswer → InlineAnswer
refuseInline n k a = choose (eqb n 0) (λ _. a) (λ _. refusedInline n k)

unfoldable pub inlineScan : Rules → List ℕ → ℕ → ℕ → InlineAnswer
inlineScan ρ text i k = refuseInline (inlineRefusal text i k) k (inlineAt ρ text i k)

-- a found block: its kind, the place of its name, its stop, whether a closer was met, and where the closer begins, or the stop where there is none
pub record Found : Type 0 where
  pub kind : ℕ
  pub name : ℕ
  pub stop : ℕ
  pub closed : Bool
  pub closer : ℕ

abbrev pub found : ℕ → ℕ → ℕ → Bool → ℕ → Found
found k n s c at = record { kind = k; name = n; stop = s; closed = c; closer = at }

-- found, or none
pub data BlockAnswer : Type 0 where
  foundBlock : Found → BlockAnswer
  noBlock : BlockAnswer
  refusedBlock : ℕ → BlockAnswer

-- the block of kind k and extent e whose first line begins at i
abbrev pub blockFound : Rules → ℕ → ℕ → Line → List Line → Extent → Found
blockFound ρ k i l ls e = found k (placeOf k l) (stopAfter i e.lines (l ∷ ls)) e.closed (closerAfter ρ k i e.lines (l ∷ ls))

-- the block that the first line opens, which begins at i
unfoldable pub blockOf : Rules → ℕ → List Line → BlockAnswer
blockOf ρ i [] = noBlock
blockOf ρ i (l ∷ ls) =
    choose (eqb (kindOf ρ l) 0) (λ _. noBlock) (λ _. foundBlock (blockFound ρ (kindOf ρ l) i l ls (extentOf ρ (kindOf ρ l) l ls)))

-- the lines from an index on, with their flags
unfoldable pub linesAt : List ℕ → List ℕ → ℕ → List Line
linesAt text flags i = linesOf (drop (lineEndings (take i text)) flags) (drop i text)

unfoldable pub blockAt : Rules → List ℕ → List ℕ → ℕ → BlockAnswer
blockAt ρ text flags i = blockOf ρ i (linesAt text flags i)

abbrev pub refuseBlock : ℕ → BlockAnswer → BlockAnswer
refuseBlock n a = choose (eqb n 0) (λ _. a) (λ _. refusedBlock n)

unfoldable pub blockScan : Rules → List ℕ → List ℕ → ℕ → BlockAnswer
blockScan ρ text flags i = refuseBlock (blockRefusal text flags i) (blockAt ρ text flags i)
