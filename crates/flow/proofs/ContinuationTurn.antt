-- One turn of the run over a line on the way to its closer.
use Rattle.std.proofs.Common.{◌≡◌, refl, sym, ap, true, false, List, [], ◌∷◌, ℕ, ◌+◌, ◌-◌, ◌<◌, ◌≤◌, arith, eqb, length, get_or, drop}
use Rattle.std.proofs.lemmas.List.{drop_all, drop_more}
use Rattle.std.proofs.lemmas.Bool.{or_parts}
use borrow.Author.Tests.{not-true}
use Rattle.lexical.specs.Text.{byte, run}
use Rattle.lexical.specs.Byte.{isLineEndingByte}
use Rattle.lexical.specs.Line.{isInner}
use Rattle.lexical.proofs.Cases.{split, clash}
use Rattle.lexical.proofs.Run.{behind-from}
use Rattle.rules.specs.declared.Rules.{Rules}
use Rattle.flow.specs.ContinuationMachine.{continuationOf, commentInsideOf, cdataInsideOf, stays, declarationInsideOf, nextOf, isClose, isContinuation, closerStart, closerLength, closedAt, meetsOf}
use Rattle.flow.specs.declared.html_flow.Kind.{Kind}
use Rattle.flow.specs.declared.html_flow.Kind.TheVariants.{Raw, Comment, Instruction, Declaration, Cdata, Basic, Complete}
use Rattle.flow.specs.declared.html_flow.ContinuationName.{ContinuationName}
use Rattle.flow.specs.declared.html_flow.ContinuationName.TheVariants.{Continuation, ContinuationCommentInside, ContinuationCdataInside, ContinuationDeclarationInside, ContinuationClose}

-- r is what the name's function answers at the byte
module _ (ρ : Rules) (κ : Kind) (s : ContinuationName) (i x : ℕ) (xs : List ℕ) (r : ContinuationName) (e : r ≡ nextOf ρ κ s x) where
  pub on : isClose r ≡ false → closedAt ρ κ s i (x ∷ xs) ≡ closedAt ρ κ r (i + 1) xs
  unfolding closedAt
  on h = rw (← e, h)

  pub here : isClose r ≡ true → closedAt ρ κ s i (x ∷ xs) ≡ i + 1 - closerLength κ
  unfolding closedAt
  here h = rw (← e, h)

-- ---- the same at an index of a line
module _ (ρ : Rules) (κ : Kind) (line : List ℕ) (s : ContinuationName) (i : ℕ) where
  module _ (r : ContinuationName) (h : i < length line) (e : r ≡ nextOf ρ κ s (get_or line i 0)) where
    pub closer-on : isClose r ≡ false → closedAt ρ κ s i (drop i line) ≡ closedAt ρ κ r (i + 1) (drop (i + 1) line)
    closer-on c = rw (drop_more line i 0 h) (on ρ κ s i _ _ r e c)

    pub closer-here : isClose r ≡ true → closedAt ρ κ s i (drop i line) ≡ i + 1 - closerLength κ
    closer-here c = rw (drop_more line i 0 h) (here ρ κ s i _ _ r e c)

    pub turn : isClose s ≡ false → meetsOf ρ κ s (drop i line) ≡ meetsOf ρ κ r (drop (i + 1) line)
    unfolding meetsOf
    turn c = rw (drop_more line i 0 h, c, e)

  pub closer-out : length line ≤ i → closedAt ρ κ s i (drop i line) ≡ i
  unfolding closedAt
  closer-out h = rw (drop_all i line h)

  pub ended : length line ≤ i → meetsOf ρ κ s (drop i line) ≡ isClose s
  unfolding meetsOf
  ended h = rw (drop_all i line h)

pub met : (ρ : Rules) (κ : Kind) (s : ContinuationName) (xs : List ℕ) → isClose s ≡ true → meetsOf ρ κ s xs ≡ true
unfolding meetsOf
met ρ κ s [] e = e
met ρ κ s (x ∷ xs) e = rw e

-- ---- no byte but the first of the closer changes anything
no-start : (κ : Kind) (x : ℕ) → eqb x (closerStart κ) ≡ false → continuationOf κ x ≡ Continuation
unfolding continuationOf
no-start Raw x e = refl
no-start Comment x e = rw e
no-start Instruction x e = rw e
no-start Declaration x e = rw e
no-start Cdata x e = rw e
no-start Basic x e = refl
no-start Complete x e = refl

module _ (ρ : Rules) (κ : Kind) where
  inner-same : (i x : ℕ) (xs : List ℕ) → isInner (closerStart κ) x ≡ true → closedAt ρ κ Continuation i (x ∷ xs) ≡ closedAt ρ κ Continuation (i + 1) xs
  inner-same i x xs h = on ρ κ Continuation i x xs Continuation (sym (no-start κ x (or_parts (eqb x (closerStart κ)) (isLineEndingByte x) (not-true _ h)).0)) refl

  pub closer-behind : (s : ContinuationName) (mark : ℕ) → isContinuation s ≡ true → mark ≡ closerStart κ → (line : List ℕ) (i j : ℕ)
      → j ≡ i + run (isInner mark) (drop i line) → closedAt ρ κ s i (drop i line) ≡ closedAt ρ κ s j (drop j line)
  closer-behind Continuation mark c e line i j h = behind-from (isInner (closerStart κ)) (closedAt ρ κ Continuation) inner-same line i j (rw e at h)
  closer-behind ContinuationCommentInside mark c e line i j h = clash _ c refl
  closer-behind ContinuationCdataInside mark c e line i j h = clash _ c refl
  closer-behind ContinuationDeclarationInside mark c e line i j h = clash _ c refl
  closer-behind ContinuationClose mark c e line i j h = clash _ c refl

-- ---- how many bytes of the closer were read, at most: one more at each turn
abbrev pub seen : Kind → ContinuationName → ℕ
seen κ Continuation = 0
seen κ ContinuationCommentInside = 1
seen κ ContinuationCdataInside = 1
seen κ ContinuationDeclarationInside = closerLength κ - 1
seen κ ContinuationClose = closerLength κ

seen-first : (κ : Kind) (x : ℕ) → seen κ (continuationOf κ x) ≤ 1
unfolding continuationOf
seen-first Raw x = omega arith
seen-first Comment x = split (eqb x (byte "-")) (λ h. rw h (omega arith)) (λ h. rw h (omega arith))
seen-first Instruction x = split (eqb x (byte "?")) (λ h. rw h (omega arith)) (λ h. rw h (omega arith))
seen-first Declaration x = split (eqb x (byte ">")) (λ h. rw h (omega arith)) (λ h. rw h (omega arith))
seen-first Cdata x = split (eqb x (byte "]")) (λ h. rw h (omega arith)) (λ h. rw h (omega arith))
seen-first Basic x = omega arith
seen-first Complete x = omega arith

closer-short : (κ : Kind) → closerLength κ ≤ 3
closer-short Raw = omega arith
closer-short Comment = omega arith
closer-short Instruction = omega arith
closer-short Declaration = omega arith
closer-short Cdata = omega arith
closer-short Basic = omega arith
closer-short Complete = omega arith

seen-next : (ρ : Rules) (κ : Kind) (s : ContinuationName) (x : ℕ) → seen κ (nextOf ρ κ s x) ≤ seen κ s + 1
unfolding commentInsideOf cdataInsideOf declarationInsideOf
seen-next ρ κ Continuation x = seen-first κ x
seen-next ρ κ ContinuationCommentInside x = split (eqb x (byte "-")) (λ h. rw h (omega (arith, closer-short κ))) (λ h. rw h (omega (arith, seen-first κ x)))
seen-next ρ κ ContinuationCdataInside x = split (eqb x (byte "]")) (λ h. rw h (omega (arith, closer-short κ))) (λ h. rw h (omega (arith, seen-first κ x)))
seen-next ρ κ ContinuationDeclarationInside x =
    split (stays ρ κ x) (λ h. rw h (omega arith)) (λ h. rw h (split (eqb x (byte ">")) (λ g. rw g (omega arith)) (λ g. rw g (omega (arith, seen-first κ x)))))
seen-next ρ κ ContinuationClose x = omega arith

pub seen-turn : (ρ : Rules) (κ : Kind) (s : ContinuationName) (i x : ℕ) (r : ContinuationName) → seen κ s ≤ i → r ≡ nextOf ρ κ s x → seen κ r ≤ i + 1
seen-turn ρ κ s i x r h e = omega (arith, ap (seen κ) e, seen-next ρ κ s x)

seen-close : (κ : Kind) (r : ContinuationName) → isClose r ≡ true → seen κ r ≡ closerLength κ
seen-close κ Continuation c = clash _ c refl
seen-close κ ContinuationCommentInside c = clash _ c refl
seen-close κ ContinuationCdataInside c = clash _ c refl
seen-close κ ContinuationDeclarationInside c = clash _ c refl
seen-close κ ContinuationClose c = refl

pub closer-read : (ρ : Rules) (κ : Kind) (s : ContinuationName) (i x : ℕ) (r : ContinuationName) → seen κ s ≤ i → r ≡ nextOf ρ κ s x → isClose r ≡ true → closerLength κ ≤ i + 1
closer-read ρ κ s i x r h e c = omega (arith, seen-turn ρ κ s i x r h e, seen-close κ r c)
