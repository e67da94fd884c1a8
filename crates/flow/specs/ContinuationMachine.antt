-- The machine of the continuation states of html_flow.rt for kinds 2 to 5, and the raw end tag by its letters. It need not be believed: no entry's
-- contract cites it, only those of single steps and of the runs in crates/reader, and proofs/ContinuationMeans.antt and proofs/RawEnd.antt show that it finds the
-- closers of the rules.
use Rattle.std.specs.Prelude.{ℕ, zero, suc, ◌+◌, ◌-◌, Bool, true, false, ◌&&◌, ◌||◌, not, List, [], ◌∷◌, eqb, take, drop}
use Rattle.lexical.specs.Text.{byte, pick, first}
use Rattle.lexical.specs.Byte.{isLetter}
use Rattle.lexical.specs.Name.{isRawName}
use Rattle.rules.specs.Search.{choose}
use Rattle.rules.specs.declared.Rules.{Rules}
use Rattle.flow.specs.declared.html_flow.Kind.{Kind}
use Rattle.flow.specs.declared.html_flow.Kind.TheVariants.{Raw, Comment, Instruction, Declaration, Cdata, Basic, Complete}
use Rattle.flow.specs.declared.html_flow.ContinuationName.{ContinuationName}
use Rattle.flow.specs.declared.html_flow.ContinuationName.TheVariants.{Continuation, ContinuationCommentInside, ContinuationCdataInside, ContinuationDeclarationInside, ContinuationClose}

unfoldable pub continuationOf : Kind → ℕ → ContinuationName
continuationOf Raw b = Continuation
continuationOf Comment b = pick (eqb b (byte "-")) ContinuationCommentInside Continuation
continuationOf Instruction b = pick (eqb b (byte "?")) ContinuationDeclarationInside Continuation
continuationOf Declaration b = pick (eqb b (byte ">")) ContinuationClose Continuation
continuationOf Cdata b = pick (eqb b (byte "]")) ContinuationCdataInside Continuation
continuationOf Basic b = Continuation
continuationOf Complete b = Continuation

unfoldable pub commentInsideOf : Kind → ℕ → ContinuationName
commentInsideOf κ b = pick (eqb b (byte "-")) ContinuationDeclarationInside (continuationOf κ b)

unfoldable pub cdataInsideOf : Kind → ℕ → ContinuationName
cdataInsideOf κ b = pick (eqb b (byte "]")) ContinuationDeclarationInside (continuationOf κ b)

-- more of the two bytes before `>` may come; F1: not of `]`
abbrev pub stays : Rules → Kind → ℕ → Bool
stays ρ Raw b = false
stays ρ Comment b = eqb b (byte "-")
stays ρ Instruction b = false
stays ρ Declaration b = false
stays ρ Cdata b = eqb b (byte "]") && not ρ.f1
stays ρ Basic b = false
stays ρ Complete b = false

unfoldable pub declarationInsideOf : Rules → Kind → ℕ → ContinuationName
declarationInsideOf ρ κ b = pick (stays ρ κ b) ContinuationDeclarationInside (pick (eqb b (byte ">")) ContinuationClose (continuationOf κ b))

abbrev pub nextOf : Rules → Kind → ContinuationName → ℕ → ContinuationName
nextOf ρ κ Continuation b = continuationOf κ b
nextOf ρ κ ContinuationCommentInside b = commentInsideOf κ b
nextOf ρ κ ContinuationCdataInside b = cdataInsideOf κ b
nextOf ρ κ ContinuationDeclarationInside b = declarationInsideOf ρ κ b
nextOf ρ κ ContinuationClose b = ContinuationClose

-- a closer was met
abbrev pub isClose : ContinuationName → Bool
isClose Continuation = false
isClose ContinuationCommentInside = false
isClose ContinuationCdataInside = false
isClose ContinuationDeclarationInside = false
isClose ContinuationClose = true

-- the last byte was not of a closer
abbrev pub isContinuation : ContinuationName → Bool
isContinuation Continuation = true
isContinuation ContinuationCommentInside = false
isContinuation ContinuationCdataInside = false
isContinuation ContinuationDeclarationInside = false
isContinuation ContinuationClose = false

-- the first byte of the closer
abbrev pub closerStart : Kind → ℕ
closerStart Raw = byte "\n"
closerStart Comment = byte "-"
closerStart Instruction = byte "?"
closerStart Declaration = byte ">"
closerStart Cdata = byte "]"
closerStart Basic = byte "\n"
closerStart Complete = byte "\n"

-- how many bytes the closer has
abbrev pub closerLength : Kind → ℕ
closerLength Raw = 0
closerLength Comment = 3
closerLength Instruction = 2
closerLength Declaration = 1
closerLength Cdata = 3
closerLength Basic = 0
closerLength Complete = 0

-- where the closer begins, i bytes having been read, or the end
unfoldable pub closedAt : Rules → Kind → ContinuationName → ℕ → List ℕ → ℕ
closedAt ρ κ s i [] = i
closedAt ρ κ s i (x ∷ xs) =
    choose (isClose (nextOf ρ κ s x)) (λ _. i + 1 - closerLength κ) (λ _. closedAt ρ κ (nextOf ρ κ s x) (i + 1) xs)

-- whether there is one
unfoldable pub meetsOf : Rules → Kind → ContinuationName → List ℕ → Bool
meetsOf ρ κ s [] = isClose s
meetsOf ρ κ s (x ∷ xs) = isClose s || meetsOf ρ κ (nextOf ρ κ s x) xs

-- the first m bytes of t are letters of a name, and at most n more may come before `>`
unfoldable pub rawEndOf : ℕ → List ℕ → ℕ → Bool
rawEndOf zero t m = eqb (first (drop m t)) (byte ">") && isRawName (take m t)
rawEndOf (suc n) t m =
    choose (eqb (first (drop m t)) (byte ">")) (λ _. isRawName (take m t))
    (λ _. choose (isLetter (first (drop m t))) (λ _. rawEndOf n t (suc m)) (λ _. false))
