-- The machine of html_text.rt: what each state does with a byte, and the run over what is left of a text. It need not be believed: no entry's contract
-- cites it, only those of single steps and of the runs in crates/reader, and proofs/TextMeans.antt shows that the run gives what the rules say.
use Rattle.std.specs.Prelude.{ℕ, List, [], ◌∷◌, Option, Some, None, eqb}
use Rattle.lexical.specs.Text.{byte, pick, run}
use Rattle.lexical.specs.Line.{isInner}
use Rattle.lexical.specs.Byte.{isLetter, isTagNameByte, isAttributeNameStart, isAttributeNameByte, isSpaceOrTab, isLineEndingByte, isQuote, isValueExcluded, isTagBreak, isValueEnd}
use Rattle.lexical.specs.Name.{cdataLetters}
use Rattle.rules.specs.Inline.{Read, takes, lacks}
use Rattle.rules.specs.declared.Rules.{Rules}
use Rattle.html.specs.declared.tokenizer.StateName.{StateName}
use Rattle.html.specs.declared.tokenizer.StateName.TheVariants.{Start, Open, DeclarationOpen, CommentOpenInside, Comment, CommentClose, CommentEnd, CdataOpenInside, Cdata, CdataClose, CdataEnd, Declaration, Instruction, InstructionClose, TagCloseStart, TagClose, TagCloseBetween, TagOpen, TagOpenBetween, TagOpenAttributeName, TagOpenAttributeNameAfter, TagOpenAttributeValueBefore, TagOpenAttributeValueQuoted, TagOpenAttributeValueQuotedAfter, TagOpenAttributeValueUnquoted, End}
use Rattle.html.specs.declared.tokenizer.State.{State}
use Rattle.html.specs.declared.tokenizer.State.TheVariants.{Next, Ok, Nok}

unfoldable pub startOf : ℕ → ℕ → State
startOf k b = pick (eqb b (byte "<")) (Next Open k) Nok

unfoldable pub openOf : ℕ → ℕ → State
openOf k b =
    pick (eqb b (byte "!")) (Next DeclarationOpen k)
    (pick (eqb b (byte "/")) (Next TagCloseStart k) (pick (eqb b (byte "?")) (Next Instruction k) (pick (isLetter b) (Next TagOpen k) Nok)))

unfoldable pub declarationOpenOf : ℕ → ℕ → State
declarationOpenOf k b =
    pick (eqb b (byte "-")) (Next CommentOpenInside k) (pick (eqb b (byte "[")) (Next CdataOpenInside k) (pick (isLetter b) (Next Declaration k) Nok))

unfoldable pub endOf : ℕ → State
endOf b = pick (eqb b (byte ">")) Ok Nok

unfoldable pub commentOpenInsideOf : ℕ → ℕ → State
commentOpenInsideOf k b = pick (eqb b (byte "-")) (Next CommentEnd k) Nok

unfoldable pub commentOf : ℕ → ℕ → State
commentOf k b = pick (eqb b (byte "-")) (Next CommentClose k) (Next Comment k)

unfoldable pub commentCloseOf : ℕ → ℕ → State
commentCloseOf k b = pick (eqb b (byte "-")) (Next CommentEnd k) (commentOf k b)

unfoldable pub commentEndOf : ℕ → ℕ → State
commentEndOf k b = pick (eqb b (byte ">")) (endOf b) (pick (eqb b (byte "-")) (commentCloseOf k b) (commentOf k b))

-- n letters of the prefix are counted, k of them before: no more, or all, or so many
abbrev pub cdataCounted : ℕ → ℕ → State
cdataCounted k n = pick (eqb n k) Nok (pick (eqb n 6) (Next Cdata 0) (Next CdataOpenInside n))

unfoldable pub cdataOpenInsideOf : ℕ → ℕ → State
cdataOpenInsideOf k b = cdataCounted k (cdataLetters k (b ∷ []))

unfoldable pub cdataOf : ℕ → ℕ → State
cdataOf k b = pick (eqb b (byte "]")) (Next CdataClose k) (Next Cdata k)

unfoldable pub cdataCloseOf : ℕ → ℕ → State
cdataCloseOf k b = pick (eqb b (byte "]")) (Next CdataEnd k) (cdataOf k b)

unfoldable pub cdataEndOf : ℕ → ℕ → State
cdataEndOf k b = pick (eqb b (byte ">")) (endOf b) (pick (eqb b (byte "]")) (cdataCloseOf k b) (cdataOf k b))

unfoldable pub declarationOf : ℕ → ℕ → State
declarationOf k b = pick (eqb b (byte ">")) (endOf b) (Next Declaration k)

unfoldable pub instructionOf : ℕ → ℕ → State
instructionOf k b = pick (eqb b (byte "?")) (Next InstructionClose k) (Next Instruction k)

unfoldable pub instructionCloseOf : ℕ → ℕ → State
instructionCloseOf k b = pick (eqb b (byte ">")) (endOf b) (instructionOf k b)

unfoldable pub tagCloseStartOf : ℕ → ℕ → State
tagCloseStartOf k b = pick (isLetter b) (Next TagClose k) Nok

-- a state that stays at whitespace
abbrev pub spaced : ℕ → State → State → State
spaced b stay go = pick (isLineEndingByte b) stay (pick (isSpaceOrTab b) stay go)

unfoldable pub tagCloseBetweenOf : ℕ → ℕ → State
tagCloseBetweenOf k b = spaced b (Next TagCloseBetween k) (endOf b)

unfoldable pub tagCloseOf : ℕ → ℕ → State
tagCloseOf k b = pick (isTagNameByte b) (Next TagClose k) (tagCloseBetweenOf k b)

unfoldable pub tagOpenBetweenOf : ℕ → ℕ → State
tagOpenBetweenOf k b =
    spaced b (Next TagOpenBetween k) (pick (eqb b (byte "/")) (Next End k) (pick (isAttributeNameStart b) (Next TagOpenAttributeName k) (endOf b)))

unfoldable pub tagOpenOf : ℕ → ℕ → State
tagOpenOf k b = pick (isTagNameByte b) (Next TagOpen k) (pick (isTagBreak b) (tagOpenBetweenOf k b) Nok)

unfoldable pub attributeNameAfterOf : ℕ → ℕ → State
attributeNameAfterOf k b =
    spaced b (Next TagOpenAttributeNameAfter k) (pick (eqb b (byte "=")) (Next TagOpenAttributeValueBefore k) (tagOpenBetweenOf k b))

unfoldable pub attributeNameOf : ℕ → ℕ → State
attributeNameOf k b = pick (isAttributeNameByte b) (Next TagOpenAttributeName k) (attributeNameAfterOf k b)

unfoldable pub valueBeforeOf : ℕ → ℕ → State
valueBeforeOf k b =
    spaced b (Next TagOpenAttributeValueBefore k)
    (pick (isQuote b) (Next (TagOpenAttributeValueQuoted b) k) (pick (isValueExcluded b) Nok (Next TagOpenAttributeValueUnquoted k)))

unfoldable pub valueQuotedOf : ℕ → ℕ → ℕ → State
valueQuotedOf m k b = pick (eqb b m) (Next TagOpenAttributeValueQuotedAfter k) (Next (TagOpenAttributeValueQuoted m) k)

unfoldable pub valueQuotedAfterOf : ℕ → ℕ → State
valueQuotedAfterOf k b = pick (isTagBreak b) (tagOpenBetweenOf k b) Nok

unfoldable pub valueUnquotedOf : Rules → ℕ → ℕ → State
valueUnquotedOf ρ k b = pick (isValueEnd ρ.t1 b) (valueQuotedAfterOf k b) (Next TagOpenAttributeValueUnquoted k)

abbrev pub stepOf : Rules → StateName → ℕ → ℕ → State
stepOf ρ Start k b = startOf k b
stepOf ρ Open k b = openOf k b
stepOf ρ DeclarationOpen k b = declarationOpenOf k b
stepOf ρ CommentOpenInside k b = commentOpenInsideOf k b
stepOf ρ Comment k b = commentOf k b
stepOf ρ CommentClose k b = commentCloseOf k b
stepOf ρ CommentEnd k b = commentEndOf k b
stepOf ρ CdataOpenInside k b = cdataOpenInsideOf k b
stepOf ρ Cdata k b = cdataOf k b
stepOf ρ CdataClose k b = cdataCloseOf k b
stepOf ρ CdataEnd k b = cdataEndOf k b
stepOf ρ Declaration k b = declarationOf k b
stepOf ρ Instruction k b = instructionOf k b
stepOf ρ InstructionClose k b = instructionCloseOf k b
stepOf ρ TagCloseStart k b = tagCloseStartOf k b
stepOf ρ TagClose k b = tagCloseOf k b
stepOf ρ TagCloseBetween k b = tagCloseBetweenOf k b
stepOf ρ TagOpen k b = tagOpenOf k b
stepOf ρ TagOpenBetween k b = tagOpenBetweenOf k b
stepOf ρ TagOpenAttributeName k b = attributeNameOf k b
stepOf ρ TagOpenAttributeNameAfter k b = attributeNameAfterOf k b
stepOf ρ TagOpenAttributeValueBefore k b = valueBeforeOf k b
stepOf ρ (TagOpenAttributeValueQuoted m) k b = valueQuotedOf m k b
stepOf ρ TagOpenAttributeValueQuotedAfter k b = valueQuotedAfterOf k b
stepOf ρ TagOpenAttributeValueUnquoted k b = valueUnquotedOf ρ k b
stepOf ρ End k b = endOf b

-- what comes of a state's answer at a byte with xs behind it: go on, or stop
abbrev pub follow : State → ℕ → List ℕ → (StateName → ℕ → Read) → Read
follow (Next s k) c xs go = go s k
follow Ok c xs go = takes xs c
follow Nok c xs go = lacks c

unfoldable pub runOf : Rules → StateName → ℕ → List ℕ → Read
runOf ρ s k [] = lacks k
runOf ρ s k (x ∷ xs) = follow (stepOf ρ s k x) k xs (λ s' k'. runOf ρ s' k' xs)

-- the byte that ends the body of a state, if it has a body
abbrev pub bodyMark : StateName → Option ℕ
bodyMark Start = None
bodyMark Open = None
bodyMark DeclarationOpen = None
bodyMark CommentOpenInside = None
bodyMark Comment = Some (byte "-")
bodyMark CommentClose = None
bodyMark CommentEnd = None
bodyMark CdataOpenInside = None
bodyMark Cdata = Some (byte "]")
bodyMark CdataClose = None
bodyMark CdataEnd = None
bodyMark Declaration = Some (byte ">")
bodyMark Instruction = Some (byte "?")
bodyMark InstructionClose = None
bodyMark TagCloseStart = None
bodyMark TagClose = None
bodyMark TagCloseBetween = None
bodyMark TagOpen = None
bodyMark TagOpenBetween = None
bodyMark TagOpenAttributeName = None
bodyMark TagOpenAttributeNameAfter = None
bodyMark TagOpenAttributeValueBefore = None
bodyMark (TagOpenAttributeValueQuoted m) = Some m
bodyMark TagOpenAttributeValueQuotedAfter = None
bodyMark TagOpenAttributeValueUnquoted = None
bodyMark End = None

-- how many bytes in front leave a state with such a mark as it is, as far as the line goes
abbrev pub bodyLength : Option ℕ → List ℕ → ℕ
bodyLength None s = 0
bodyLength (Some m) s = run (isInner m) s
