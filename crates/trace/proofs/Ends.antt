-- What the machine takes ends in `>`, because only `endOf` ends a scan; and its first line has at least two bytes, because neither `<` nor what the machine
-- goes on with behind it is a byte of a line ending, and neither ends the scan.
use Rattle.std.proofs.Common.{◌≡◌, refl, sym, ◌∙◌, ap, Bool, true, false, List, [], ◌∷◌, ℕ, suc, ◌+◌, ◌-◌, ◌≤◌, arith, eqb, length, get_or, drop, length-drop, drop-drop, eqb-true}
use Rattle.lexical.specs.Text.{byte, first, pick, run}
use Rattle.lexical.specs.Byte.{isLetter, isLineEndingByte}
use Rattle.lexical.specs.Line.{lineLength}
use Rattle.lexical.proofs.Cases.{split, excluded}
use Rattle.lexical.proofs.Suffix.{first-in}
use Rattle.rules.specs.Reading.{crate as ofCrate}
use Rattle.rules.specs.Inline.{Read, takes, lacks}
use Rattle.rules.specs.Scan.{foundInline, inlineAnswer, inlineAt}
use Rattle.rules.specs.declared.Rules.{Rules}
use Rattle.html.specs.TextMachine.{startOf, openOf, declarationOpenOf, endOf, commentOpenInsideOf, commentOf, commentCloseOf, commentEndOf, cdataOpenInsideOf, cdataOf, cdataCloseOf, cdataEndOf, declarationOf, instructionOf, instructionCloseOf, tagCloseStartOf, tagCloseBetweenOf, tagCloseOf, tagOpenBetweenOf, tagOpenOf, attributeNameAfterOf, attributeNameOf, valueBeforeOf, valueQuotedOf, valueQuotedAfterOf, valueUnquotedOf, stepOf, follow, runOf}
use Rattle.html.specs.declared.tokenizer.StateName.{StateName}
use Rattle.html.specs.declared.tokenizer.StateName.TheVariants.{Start, Open, DeclarationOpen, CommentOpenInside, Comment, CommentClose, CommentEnd, CdataOpenInside, Cdata, CdataClose, CdataEnd, Declaration, Instruction, InstructionClose, TagCloseStart, TagClose, TagCloseBetween, TagOpen, TagOpenBetween, TagOpenAttributeName, TagOpenAttributeNameAfter, TagOpenAttributeValueBefore, TagOpenAttributeValueQuoted, TagOpenAttributeValueQuotedAfter, TagOpenAttributeValueUnquoted, End}
use Rattle.html.specs.declared.tokenizer.State.{State}
use Rattle.html.specs.declared.tokenizer.State.TheVariants.{Next, Ok, Nok}
use Rattle.html.proofs.Kept.{with-carry}

-- ---- one step
-- an answer at a byte ends the scan at `>` alone
record Shuts (b : ℕ) (r : State) : Type 0 where
  pub at : r ≡ Ok → b ≡ byte ">"

module _ (b : ℕ) where
  goes : {s : StateName} {k : ℕ} → Shuts b (Next s k)
  goes {s} {k} = record { at = λ e. let z : ◌≡◌ {A = ℕ} 0 1 = cc in absurd (omega arith) }

  fails : Shuts b Nok
  fails = record { at = λ e. let z : ◌≡◌ {A = ℕ} 0 1 = cc in absurd (omega arith) }

  picked : (t : Bool) (x y : State) → Shuts b x → Shuts b y → Shuts b (pick t x y)
  picked true x y p q = p
  picked false x y p q = q

  ended : Shuts b (endOf b)
  unfolding endOf
  ended = split (eqb b (byte ">")) (λ t. rw t (record { at = λ e. eqb-true b (byte ">") t })) (λ t. rw t fails)

-- each answer of a state is picked by tests from these
ruleset answers = (goes, fails, picked, ended)

-- every state
step-shuts : (ρ : Rules) (st : StateName) (k b : ℕ) → Shuts b (stepOf ρ st k b)
unfolding startOf openOf declarationOpenOf commentOpenInsideOf commentOf commentCloseOf commentEndOf cdataOpenInsideOf cdataOf cdataCloseOf cdataEndOf declarationOf instructionOf instructionCloseOf tagCloseStartOf tagCloseBetweenOf tagCloseOf tagOpenBetweenOf tagOpenOf attributeNameAfterOf attributeNameOf valueBeforeOf valueQuotedOf valueQuotedAfterOf valueUnquotedOf
step-shuts ρ Start k b = search answers
step-shuts ρ Open k b = search answers
step-shuts ρ DeclarationOpen k b = search answers
step-shuts ρ CommentOpenInside k b = search answers
step-shuts ρ Comment k b = search answers
step-shuts ρ CommentClose k b = search answers
step-shuts ρ CommentEnd k b = search answers
step-shuts ρ CdataOpenInside k b = search answers
step-shuts ρ Cdata k b = search answers
step-shuts ρ CdataClose k b = search answers
step-shuts ρ CdataEnd k b = search answers
step-shuts ρ Declaration k b = search answers
step-shuts ρ Instruction k b = search answers
step-shuts ρ InstructionClose k b = search answers
step-shuts ρ TagCloseStart k b = search answers
step-shuts ρ TagClose k b = search answers
step-shuts ρ TagCloseBetween k b = search answers
step-shuts ρ TagOpen k b = search answers depth 9
step-shuts ρ TagOpenBetween k b = search answers depth 9
step-shuts ρ TagOpenAttributeName k b = search answers depth 9
step-shuts ρ TagOpenAttributeNameAfter k b = search answers depth 9
step-shuts ρ TagOpenAttributeValueBefore k b = search answers
step-shuts ρ (TagOpenAttributeValueQuoted m) k b = search answers
step-shuts ρ TagOpenAttributeValueQuotedAfter k b = search answers depth 9
step-shuts ρ TagOpenAttributeValueUnquoted k b = search answers depth 9
step-shuts ρ End k b = search answers

-- ---- a run
-- what is taken of xs ends with the `>` at n
data Ends (xs : List ℕ) : Read → Type 0 where
  ends : (n : ℕ) (s : List ℕ) (k : ℕ) → drop n xs ≡ byte ">" ∷ s → Ends xs (takes s k)
  keeps : (k : ℕ) → Ends xs (lacks k)

-- with a byte in front
later : {x : ℕ} {xs : List ℕ} {r : Read} → Ends xs r → Ends (x ∷ xs) r
later (ends n s k e) = ends (suc n) s k e
later (keeps k) = keeps k

after : (r : State) (k x : ℕ) (xs : List ℕ) (go : StateName → ℕ → Read) → Shuts x r → ((s : StateName) (c : ℕ) → Ends xs (go s c))
    → Ends (x ∷ xs) (follow r k xs go)
after (Next s c) k x xs go a h = later (h s c)
after Ok k x xs go a h = ends 0 xs k (ap (λ y. y ∷ xs) (a.at refl))
after Nok k x xs go a h = keeps k

run-ends : (ρ : Rules) (st : StateName) (k : ℕ) (s : List ℕ) → Ends s (runOf ρ st k s)
unfolding runOf
run-ends ρ st k [] = keeps k
run-ends ρ st k (x ∷ xs) = after (stepOf ρ st k x) k x xs (λ s c. runOf ρ s c xs) (step-shuts ρ st k x) (λ s c. run-ends ρ s c xs)

-- ---- from the start on
-- the same from the start on: at least two bytes stand in front of the `>`, and in the first line
data Opens (xs : List ℕ) : Read → Type 0 where
  opens : (n : ℕ) (s : List ℕ) (k : ℕ) → drop n xs ≡ byte ">" ∷ s → 2 ≤ n → 2 ≤ lineLength xs → Opens xs (takes s k)
  stays : (k : ℕ) → Opens xs (lacks k)

-- behind two bytes of a line's content
behind-two : (x y : ℕ) {xs : List ℕ} {r : Read} → isLineEndingByte x ≡ false → isLineEndingByte y ≡ false → Ends xs r → Opens (x ∷ y ∷ xs) r
unfolding run
behind-two x y {xs} f g (ends n s k e) = opens (suc (suc n)) s k e (omega arith) (simp (f, g) (omega arith))
behind-two x y f g (keeps k) = stays k

letter-apart : (x : ℕ) → isLetter x ≡ true → isLineEndingByte x ≡ false
letter-apart x h = rw (excluded isLetter (byte "\n") x refl h, excluded isLetter (byte "\r") x refl h)

-- `<`, and `!`, `/`, `?` or a letter
run-opens : (ρ : Rules) (k : ℕ) (s : List ℕ) → Opens s (runOf ρ Start k s)
unfolding runOf startOf openOf
run-opens ρ k [] = stays k
run-opens ρ k (x ∷ []) = split (eqb x (byte "<")) (λ t. rw t (stays k)) (λ t. rw t (stays k))
run-opens ρ k (x ∷ y ∷ ys) =
    split (eqb x (byte "<"))
    (λ t.
    let f : isLineEndingByte x ≡ false = rw (eqb-true x (byte "<") t) in
    split (eqb y (byte "!")) (λ a. rw (t, a) (behind-two x y f (rw (eqb-true y (byte "!") a)) (run-ends ρ DeclarationOpen k ys)))
    (λ a. split (eqb y (byte "/")) (λ b. rw (t, a, b) (behind-two x y f (rw (eqb-true y (byte "/") b)) (run-ends ρ TagCloseStart k ys)))
    (λ b. split (eqb y (byte "?")) (λ c. rw (t, a, b, c) (behind-two x y f (rw (eqb-true y (byte "?") c)) (run-ends ρ Instruction k ys)))
    (λ c. split (isLetter y) (λ l. rw (t, a, b, c, l) (behind-two x y f (letter-apart y l) (run-ends ρ TagOpen k ys))) (λ l. rw (t, a, b, c, l) (stays k))))))
    (λ t. rw t (stays k))

-- ---- what is found at an index of a text
-- it has three bytes at least, two of them in its first line, and lies in the text; its last byte is `>`
pub record Opened (text : List ℕ) (i stop : ℕ) : Type 0 where
  pub far : i + 3 ≤ stop
  pub to : stop ≤ length text
  pub mark : get_or text (stop - 1) 0 ≡ byte ">"
  pub long : 2 ≤ lineLength (drop i text)

opened-of : (text : List ℕ) (i : ℕ) (r : Read) (stop c : ℕ) → Opens (drop i text) r → inlineAnswer (length text) r ≡ foundInline stop c → Opened text i stop
opened-of text i (takes s d) stop c (opens n u v e h l) f =
    let z : length text - length s ≡ stop = cc in
    let cut : drop (i + n) text ≡ byte ">" ∷ s = sym (drop-drop n i text) ∙ e in
    let size : length text - (i + n) ≡ suc (length s) = sym (length-drop (i + n) text) ∙ ap length cut in
    let at : stop - 1 ≡ i + n = omega arith in
    record {
      far = omega arith;
      to = omega arith;
      mark = ap (λ m. get_or text m 0) at ∙ sym (first-in text (i + n) (omega arith)) ∙ ap first cut;
      long = l;
    }
opened-of text i (lacks d) stop c (stays v) f = let z : ◌≡◌ {A = ℕ} 0 1 = cc in absurd (omega arith)

pub opened : (text : List ℕ) (i k : ℕ) → k ≤ 5 → (stop c : ℕ) → inlineAt ofCrate text i k ≡ foundInline stop c → Opened text i stop
opened text i k h stop c f = opened-of text i (runOf ofCrate Start k (drop i text)) stop c (run-opens ofCrate k (drop i text)) (with-carry ofCrate text i k refl h ∙ f)
