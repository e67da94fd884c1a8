-- What an answer of the inline scan says, as the rules tell it: for each case its values.
use Rattle.std.specs.Prelude.{ℕ, Option, Some, None, Result, Ok, Err}
use Rattle.rules.specs.Refusal.{refusalNumber}
use Rattle.rules.specs.Scan.{InlineAnswer, foundInline, noInline, refusedInline}
use Rattle.rules.specs.declared.refusal.Refusal.{Refusal}
use Rattle.html.specs.declared.tokenizer.Inline.{Inline}

-- with a stop: found; without one: none
abbrev pub stopping : Option ℕ → ℕ → InlineAnswer
stopping (Some stop) carry = foundInline stop carry
stopping None carry = noInline carry

-- found with stop and carry, or none with the carry
abbrev pub inlineOf : Inline → InlineAnswer
inlineOf a = stopping a.stop a.carry

-- of a scan that may be refused: a refusal with its number and the carry passed in
abbrev pub inlineScanOf : ℕ → Result Inline Refusal → InlineAnswer
inlineScanOf carry (Ok a) = inlineOf a
inlineScanOf carry (Err r) = refusedInline (refusalNumber r) carry

-- the same answer with another carry
abbrev pub carryingOf : ℕ → InlineAnswer → InlineAnswer
carryingOf k (foundInline stop carry) = foundInline stop k
carryingOf k (noInline carry) = noInline k
carryingOf k (refusedInline refusal carry) = refusedInline refusal k
