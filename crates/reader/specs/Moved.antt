-- Where a reader stands after a scan.
use Rattle.std.specs.Prelude.{ℕ, List, drop, unwrap_or}
use Rattle.lexical.specs.Text.{none, first}
use Rattle.rules.specs.Reading.{crate as ofCrate}
use Rattle.rules.specs.Scan.{InlineAnswer, foundInline, noInline, refusedInline, inlineScan}
use Rattle.html.specs.Answer.{inlineScanOf}
use Rattle.reader.specs.declared.slice.Turn.{Turn}

-- behind what was found; else where it stood
abbrev pub movedOf : ℕ → InlineAnswer → ℕ
movedOf i (foundInline stop carry) = stop
movedOf i (noInline carry) = i
movedOf i (refusedInline refusal carry) = i

-- the answer of a scan, the index that the reader is moved to, and the byte there
pub record Turned : Type 0 where
  pub answer : InlineAnswer
  pub index : ℕ
  pub byte : ℕ

abbrev pub turned : InlineAnswer → ℕ → ℕ → Turned
turned a i b = record { answer = a; index = i; byte = b }

-- a turn with the carry passed in
abbrev pub turnedOf : ℕ → Turn → Turned
turnedOf k t = turned (inlineScanOf k t.answer) t.index (unwrap_or t.byte none)

abbrev pub turnedFrom : List ℕ → ℕ → InlineAnswer → Turned
turnedFrom text i a = turned a (movedOf i a) (first (drop (movedOf i a) text))

unfoldable pub turnedAt : List ℕ → ℕ → ℕ → Turned
turnedAt text i k = turnedFrom text i (inlineScan ofCrate text i k)
