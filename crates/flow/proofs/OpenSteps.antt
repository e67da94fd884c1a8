-- The openings at an index of a line.
use Rattle.std.proofs.lemmas.List.{drop_more}
use borrow.Author.Tests.{lt-leb}
use Rattle.std.proofs.Common.{Some, None, ◌≡◌, refl, sym, ◌∙◌, ap, Bool, true, false, ◌||◌, not, List, [], ◌∷◌, ℕ, suc, ◌+◌, ◌<◌, ◌≤◌, arith, eqb, leb, ltb, length, take, drop, eqb-true, ltb-true, ltb-false, le-leb}
use Rattle.std.specs.Option.{option_eq, unwrap_or}
use Rattle.lexical.proofs.Peek.{asked}
use Rattle.lexical.specs.Text.{byte, none, first, run}
use Rattle.lexical.specs.Byte.{isLetter, isSpaceOrTab, isLineEndingByte}
use Rattle.lexical.specs.Name.{cdataPrefix}
use Rattle.lexical.specs.Line.{lineLength}
use Rattle.lexical.proofs.Cases.{split}
use Rattle.lexical.proofs.Suffix.{first-in, first-out}
use Rattle.rules.specs.Search.{choose, begins}
use Rattle.rules.specs.Block.{nameOf, afterName, kindAt, kindOf, indentation, placeIn, tagName}
use Rattle.rules.specs.Lines.{Line, line}
use Rattle.rules.specs.declared.Rules.{Rules}
use Rattle.rules.proofs.Cut.{space-apart}
use Rattle.rules.proofs.Prefix.{one-first}
use Rattle.std.specs.declared.option.Option.{Option}
use Rattle.flow.specs.Answer.{openingNumber}
use Rattle.flow.specs.declared.block.Opening.{Opening}
use Rattle.flow.specs.CompleteMachine.{runOf}
use Rattle.flow.specs.OpenMachine.{selfClosingOf, completesOf, tagNameOf, commentOpenOf, declarationOpenOf, tagCloseStartOf, openOf, Names}
use Rattle.flow.specs.declared.tokenizer.StateName.TheVariants.{CompleteClosingTagAfter, CompleteAttributeValueQuotedAfter}
use Rattle.flow.proofs.CompleteMeans.{open-is, close-is}
use Rattle.flow.proofs.OpenMeans.{kind-is, not-opened, nothing-opened}

-- ---- a byte that was asked for at an index
-- a byte x, and not the word for a missing one, stands there
stands-there : (line : List ℕ) (i x : ℕ) → ltb x none ≡ true → first (drop i line) ≡ x → drop i line ≡ x ∷ drop (i + 1) line
stands-there line i x k f =
    let l : x < none = ltb-true x none k in
    split (ltb i (length line))
    (λ t. let m = ltb-true i (length line) t in drop_more line i 0 m ∙ ap (λ b. b ∷ drop (i + 1) line) (sym (first-in line i m) ∙ f))
    (λ t. let o = first-out line i (ltb-false i (length line) t) in absurd (omega (arith, o, f, l)))

module _ (r : Option ℕ) (line : List ℕ) (i : ℕ) (e : unwrap_or r none ≡ first (drop i line)) where
  pub first-some : (x : ℕ) → r ≡ Some x → first (drop i line) ≡ x
  first-some x h = sym e ∙ ap (λ (o : Option ℕ). unwrap_or o none) h

  pub first-none : r ≡ None → first (drop i line) ≡ none
  first-none h = sym e ∙ ap (λ (o : Option ℕ). unwrap_or o none) h

  -- by the answer of a test for a byte
  module _ (b : ℕ) (k : ltb b none ≡ true) (t : Bool) (w : t ≡ option_eq eqb r (Some b)) where
    pub first-test : eqb (first (drop i line)) b ≡ t
    first-test = sym (asked r (drop i line) b k e) ∙ sym w

    pub asked-there : t ≡ true → drop i line ≡ b ∷ drop (i + 1) line
    asked-there h = stands-there line i b k (eqb-true (first (drop i line)) b (first-test ∙ h))

  -- by the value of a byte
  pub there : (x y : ℕ) → ltb x none ≡ true → r ≡ Some y → y ≡ x → drop i line ≡ x ∷ drop (i + 1) line
  there x y k h z = stands-there line i x k (first-some y h ∙ z)

-- ---- complete tags: what the run says
pub closing-tag : (ρ : Rules) (raw : Bool) (a : List ℕ) → runOf ρ CompleteClosingTagAfter a ≡ completesOf ρ true raw a
closing-tag ρ raw a = close-is ρ a

pub open-tag : (ρ : Rules) (raw : Bool) (a : List ℕ) → (ρ.f3 || not raw) ≡ true → runOf ρ CompleteAttributeValueQuotedAfter a ≡ completesOf ρ false raw a
open-tag ρ raw a t = rw t (open-is ρ (suc (length a)) a (omega arith))

-- ---- the name that an opening carries
pub renamed : (r : Option Opening) (m n : List ℕ) → m ≡ n → Names r m → Names r n
renamed r m n e h = h ∙ ap (placeIn (openingNumber r)) e

-- ---- behind a name, by the first byte of what is left
pub self-in : (s t : List ℕ) → s ≡ byte "/" ∷ t → selfClosingOf s ≡ choose (eqb (first t) (byte ">")) (λ _. 6) (λ _. 0)
unfolding selfClosingOf
self-in s t e = rw e (ap (λ b. choose b (λ _. 6) (λ _. 0)) (one-first (byte ">") t refl))

pub self-other : (s : List ℕ) → eqb (first s) (byte "/") ≡ false → selfClosingOf s ≡ 0
unfolding selfClosingOf
self-other [] e = refl
self-other (x ∷ t) e = rw e

pub comment-first : (s : List ℕ) → commentOpenOf s ≡ choose (eqb (first s) (byte "-")) (λ _. 2) (λ _. 0)
unfolding commentOpenOf
comment-first s = ap (λ b. choose b (λ _. 2) (λ _. 0)) (one-first (byte "-") s refl)

-- ---- behind `<!`
pub declaration-dash : (s t : List ℕ) → s ≡ byte "-" ∷ t → declarationOpenOf s ≡ commentOpenOf t
unfolding declarationOpenOf commentOpenOf
declaration-dash s t e = rw e

pub declaration-cdata : (s t : List ℕ) → s ≡ byte "[" ∷ t → declarationOpenOf s ≡ choose (begins cdataPrefix t) (λ _. 5) (λ _. 0)
unfolding declarationOpenOf cdataPrefix
declaration-cdata s t e = rw e

pub declaration-other : (s : List ℕ) (x : ℕ) (l : Bool) → first s ≡ x → eqb x (byte "-") ≡ false → eqb x (byte "[") ≡ false → isLetter x ≡ l
    → declarationOpenOf s ≡ choose l (λ _. 4) (λ _. 0)
unfolding declarationOpenOf
declaration-other [] x l e d g h = ap (λ b. choose b (λ _. 4) (λ _. 0)) (ap isLetter e ∙ h)
declaration-other (y ∷ t) x l e d g h = rw (e, d, h, g)

-- ---- the tag name behind `</` and behind `<`
pub name-slash : (s t : List ℕ) → s ≡ byte "/" ∷ t → tagName (byte "<" ∷ s) ≡ nameOf t
name-slash s t e = rw e

pub name-here : (s : List ℕ) → eqb (first s) (byte "/") ≡ false → tagName (byte "<" ∷ s) ≡ nameOf s
name-here [] e = refl
name-here (x ∷ t) e = rw e

-- ---- behind `</` and `<`
module _ (ρ : Rules) (f : ℕ) where
  pub close-in : (s : List ℕ) (x : ℕ) (l : Bool) → first s ≡ x → isLetter x ≡ l
      → tagCloseStartOf ρ f s ≡ choose l (λ _. tagNameOf ρ f true (nameOf s) (afterName s)) (λ _. 0)
  unfolding tagCloseStartOf
  close-in s x l e h = ap (λ b. choose b (λ _. tagNameOf ρ f true (nameOf s) (afterName s)) (λ _. 0)) (ap isLetter e ∙ h)

  module _ (s t : List ℕ) where
    pub open-mark : s ≡ byte "!" ∷ t → openOf ρ f s ≡ declarationOpenOf t
    unfolding openOf
    open-mark e = rw e

    pub open-slash : s ≡ byte "/" ∷ t → openOf ρ f s ≡ tagCloseStartOf ρ f t
    unfolding openOf
    open-slash e = rw e

    pub open-question : s ≡ byte "?" ∷ t → openOf ρ f s ≡ 3
    unfolding openOf
    open-question e = rw e

    pub before-in : s ≡ byte "<" ∷ t → kindAt ρ f s ≡ openOf ρ f t
    before-in e = ap (kindAt ρ f) e ∙ kind-is ρ f t

  -- a byte that is none of these, or none
  pub open-name : (s : List ℕ) (x : ℕ) (l : Bool) → first s ≡ x → eqb x (byte "!") ≡ false → eqb x (byte "/") ≡ false → eqb x (byte "?") ≡ false → isLetter x ≡ l
      → openOf ρ f s ≡ choose l (λ _. tagNameOf ρ f false (nameOf s) (afterName s)) (λ _. 0)
  unfolding openOf
  open-name [] x l e p q r h = ap (λ b. choose b (λ _. tagNameOf ρ f false (nameOf []) (afterName [])) (λ _. 0)) (ap isLetter e ∙ h)
  open-name (y ∷ t) x l e p q r h = rw (e, p, q, r, h)

  pub before-other : (s : List ℕ) → eqb (first s) (byte "<") ≡ false → kindAt ρ f s ≡ 0
  before-other [] e = nothing-opened ρ f
  before-other (x ∷ t) e = not-opened ρ f x t e

-- ---- the indentation
module _ (ρ : Rules) (l : Line) where
  abbrev indent : ℕ
  indent = indentation l.content

  by-depth : (t : Bool) → leb indent 3 ≡ t → kindOf ρ l ≡ choose t (λ _. kindAt ρ l.flag (drop indent l.content)) (λ _. 0)
  unfolding kindOf
  by-depth t e = ap (λ x. choose x (λ _. kindAt ρ l.flag (drop indent l.content)) (λ _. 0)) e

  pub too-deep : 3 < indent → kindOf ρ l ≡ 0
  too-deep h = by-depth false (lt-leb indent 3 h)

  pub not-deep : indent ≤ 3 → kindOf ρ l ≡ kindAt ρ l.flag (drop indent l.content)
  not-deep h = by-depth true (le-leb indent 3 h)

-- ---- a text whose first byte behind spaces and tabs is not `<`
-- nor is the first behind the indentation of its first line
indent-first : (s : List ℕ) → eqb (first (drop (run isSpaceOrTab s) s)) (byte "<") ≡ false
    → eqb (first (drop (indentation (take (lineLength s) s)) (take (lineLength s) s))) (byte "<") ≡ false
unfolding run
indent-first [] h = refl
indent-first (x ∷ xs) h =
    split (eqb x (byte " "))
    (λ e. let t : eqb (first (drop (run isSpaceOrTab xs) xs)) (byte "<") ≡ false = simp e at h in simp (e, space-apart x e) (indent-first xs t))
    (λ e. split (isLineEndingByte x) (λ r. simp r)
    (λ r. split (eqb x (byte "\t")) (λ t. rw (eqb-true x (byte "\t") t)) (λ t. let u : eqb x (byte "<") ≡ false = simp (e, t) at h in simp (e, r, u))))

pub no-kind : (ρ : Rules) (f : ℕ) (s : List ℕ) → eqb (first (drop (run isSpaceOrTab s) s)) (byte "<") ≡ false → kindOf ρ (line f [] (take (lineLength s) s)) ≡ 0
no-kind ρ f s h =
    let l : Line = line f [] (take (lineLength s) s) in
    split (leb (indent ρ l) 3) (λ e. by-depth ρ l true e ∙ before-other ρ f (drop (indent ρ l) l.content) (indent-first s h)) (λ e. by-depth ρ l false e)
