-- The bytes that leave a state as it is: the run over a text is the same behind them.
use Rattle.std.proofs.lemmas.Bool.{or_parts}
use Rattle.std.proofs.Common.{Option, Some, None, MatchOption, ◌≡◌, sym, ◌∙◌, ap, true, false, List, ◌∷◌, ℕ, ◌+◌, arith, eqb, drop}
use borrow.Author.Tests.{not-true}
use Rattle.lexical.specs.Byte.{isLineEndingByte}
use Rattle.lexical.specs.Line.{isInner}
use Rattle.lexical.proofs.Run.{behind-at}
use Rattle.rules.specs.declared.Rules.{Rules}
use Rattle.html.specs.TextMachine.{bodyMark, bodyLength, stepOf, runOf, commentOf, cdataOf, declarationOf, instructionOf, valueQuotedOf}
use Rattle.html.specs.declared.tokenizer.StateName.{StateName}
use Rattle.html.specs.declared.tokenizer.StateName.TheVariants.{Start, Open, DeclarationOpen, CommentOpenInside, Comment, CommentClose, CommentEnd, CdataOpenInside, Cdata, CdataClose, CdataEnd, Declaration, Instruction, InstructionClose, TagCloseStart, TagClose, TagCloseBetween, TagOpen, TagOpenBetween, TagOpenAttributeName, TagOpenAttributeNameAfter, TagOpenAttributeValueBefore, TagOpenAttributeValueQuoted, TagOpenAttributeValueQuotedAfter, TagOpenAttributeValueUnquoted, End}
use Rattle.html.specs.declared.tokenizer.State.TheVariants.{Next}

-- a byte that is not the mark
abbrev Stays : Rules → StateName → Option ℕ → Type 0
Stays ρ st o = MatchOption o Unit (λ m. (k b : ℕ) → eqb b m ≡ false → stepOf ρ st k b ≡ Next st k)

stays : (ρ : Rules) (st : StateName) → Stays ρ st (bodyMark st)
unfolding commentOf cdataOf declarationOf instructionOf valueQuotedOf
stays ρ Start = tt
stays ρ Open = tt
stays ρ DeclarationOpen = tt
stays ρ CommentOpenInside = tt
stays ρ Comment = λ k b e. rw e
stays ρ CommentClose = tt
stays ρ CommentEnd = tt
stays ρ CdataOpenInside = tt
stays ρ Cdata = λ k b e. rw e
stays ρ CdataClose = tt
stays ρ CdataEnd = tt
stays ρ Declaration = λ k b e. rw e
stays ρ Instruction = λ k b e. rw e
stays ρ InstructionClose = tt
stays ρ TagCloseStart = tt
stays ρ TagClose = tt
stays ρ TagCloseBetween = tt
stays ρ TagOpen = tt
stays ρ TagOpenBetween = tt
stays ρ TagOpenAttributeName = tt
stays ρ TagOpenAttributeNameAfter = tt
stays ρ TagOpenAttributeValueBefore = tt
stays ρ (TagOpenAttributeValueQuoted m) = λ k b e. rw e
stays ρ TagOpenAttributeValueQuotedAfter = tt
stays ρ TagOpenAttributeValueUnquoted = tt
stays ρ End = tt

-- the run, behind such bytes
module _ (ρ : Rules) (st : StateName) (k : ℕ) where
  passed : (m : ℕ) → Stays ρ st (Some m) → (x : ℕ) (xs : List ℕ) → isInner m x ≡ true → runOf ρ st k (x ∷ xs) ≡ runOf ρ st k xs
  unfolding runOf
  passed m h x xs e = rw (h k x (or_parts (eqb x m) (isLineEndingByte x) (not-true _ e)).0)

  behind : (o : Option ℕ) → Stays ρ st o → (s : List ℕ) (i j : ℕ) → j ≡ i + bodyLength o (drop i s) → runOf ρ st k (drop i s) ≡ runOf ρ st k (drop j s)
  behind None h s i j e = let n : j ≡ i = e ∙ omega arith in ap (λ n. runOf ρ st k (drop n s)) (sym n)
  behind (Some m) h s i j e = behind-at (isInner m) (runOf ρ st k) (passed m h) s i j e

  pub body-behind : (s : List ℕ) (i j : ℕ) → j ≡ i + bodyLength (bodyMark st) (drop i s) → runOf ρ st k (drop i s) ≡ runOf ρ st k (drop j s)
  body-behind = behind (bodyMark st) (stays ρ st)
