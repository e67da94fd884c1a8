-- The machine of the complete states of html_flow.rt: what each does with a byte, and the run over what is left of a line. It need not be believed: no public
-- contract cites it, and proofs/CompleteMeans.antt shows that the run says what the rules say.
use Rattle.std.specs.Prelude.{ℕ, Bool, true, false, List, [], ◌∷◌, eqb}
use Rattle.lexical.specs.Text.{byte, pick}
use Rattle.lexical.specs.Byte.{isAttributeNameByte, isSpaceOrTab, isLineEndingByte, isWhitespace, isQuote, isValueExcluded, isTagBreak, isNameStart, isValueEnd}
use Rattle.rules.specs.declared.Rules.{Rules}
use Rattle.flow.specs.declared.tokenizer.StateName.{StateName}
use Rattle.flow.specs.declared.tokenizer.StateName.TheVariants.{CompleteClosingTagAfter, CompleteAttributeNameBefore, CompleteAttributeName, CompleteAttributeNameAfter, CompleteAttributeValueBefore, CompleteAttributeValueQuoted, CompleteAttributeValueQuotedAfter, CompleteAttributeValueUnquoted, CompleteEnd, CompleteAfter}
use Rattle.flow.specs.declared.tokenizer.State.{State}
use Rattle.flow.specs.declared.tokenizer.State.TheVariants.{Next, Ok, Nok}

unfoldable pub endOf : ℕ → State
endOf b = pick (eqb b (byte ">")) (Next CompleteAfter) Nok

unfoldable pub afterOf : ℕ → State
afterOf b = pick (isSpaceOrTab b) (Next CompleteAfter) (pick (isLineEndingByte b) Ok Nok)

unfoldable pub closingTagAfterOf : ℕ → State
closingTagAfterOf b = pick (isWhitespace b) (Next CompleteClosingTagAfter) (endOf b)

unfoldable pub nameBeforeOf : Rules → ℕ → State
nameBeforeOf ρ b =
    pick (isWhitespace b) (Next CompleteAttributeNameBefore)
    (pick (eqb b (byte "/")) (Next CompleteEnd) (pick (isNameStart ρ.f2 b) (Next CompleteAttributeName) (endOf b)))

unfoldable pub nameAfterOf : Rules → ℕ → State
nameAfterOf ρ b =
    pick (isWhitespace b) (Next CompleteAttributeNameAfter) (pick (eqb b (byte "=")) (Next CompleteAttributeValueBefore) (nameBeforeOf ρ b))

unfoldable pub nameOf : Rules → ℕ → State
nameOf ρ b = pick (isAttributeNameByte b) (Next CompleteAttributeName) (nameAfterOf ρ b)

unfoldable pub valueQuotedOf : ℕ → ℕ → State
valueQuotedOf m b = pick (eqb b m) (Next CompleteAttributeValueQuotedAfter) (Next (CompleteAttributeValueQuoted m))

unfoldable pub valueQuotedAfterOf : Rules → ℕ → State
valueQuotedAfterOf ρ b = pick (isTagBreak b) (nameBeforeOf ρ b) Nok

-- F5: a further value may follow, as behind a name
unfoldable pub valueUnquotedOf : Rules → ℕ → State
valueUnquotedOf ρ b = pick (isValueEnd ρ.f4 b) (pick ρ.f5 (nameAfterOf ρ b) (valueQuotedAfterOf ρ b)) (Next CompleteAttributeValueUnquoted)

unfoldable pub valueBeforeOf : Rules → ℕ → State
valueBeforeOf ρ b =
    pick (isWhitespace b) (Next CompleteAttributeValueBefore)
    (pick (isQuote b) (Next (CompleteAttributeValueQuoted b)) (pick (isValueExcluded b) Nok (valueUnquotedOf ρ b)))

abbrev pub stepOf : Rules → StateName → ℕ → State
stepOf ρ CompleteClosingTagAfter b = closingTagAfterOf b
stepOf ρ CompleteAttributeNameBefore b = nameBeforeOf ρ b
stepOf ρ CompleteAttributeName b = nameOf ρ b
stepOf ρ CompleteAttributeNameAfter b = nameAfterOf ρ b
stepOf ρ CompleteAttributeValueBefore b = valueBeforeOf ρ b
stepOf ρ (CompleteAttributeValueQuoted m) b = valueQuotedOf m b
stepOf ρ CompleteAttributeValueQuotedAfter b = valueQuotedAfterOf ρ b
stepOf ρ CompleteAttributeValueUnquoted b = valueUnquotedOf ρ b
stepOf ρ CompleteEnd b = endOf b
stepOf ρ CompleteAfter b = afterOf b

-- the state in which a line may end
abbrev pub accepts : StateName → Bool
accepts CompleteClosingTagAfter = false
accepts CompleteAttributeNameBefore = false
accepts CompleteAttributeName = false
accepts CompleteAttributeNameAfter = false
accepts CompleteAttributeValueBefore = false
accepts (CompleteAttributeValueQuoted m) = false
accepts CompleteAttributeValueQuotedAfter = false
accepts CompleteAttributeValueUnquoted = false
accepts CompleteEnd = false
accepts CompleteAfter = true

abbrev pub follow : State → (StateName → Bool) → Bool
follow (Next s) go = go s
follow Ok go = true
follow Nok go = false

unfoldable pub runOf : Rules → StateName → List ℕ → Bool
runOf ρ s [] = accepts s
runOf ρ s (x ∷ xs) = follow (stepOf ρ s x) (λ s'. runOf ρ s' xs)
