-- The run over a line finds the closer where the rules say that it begins, and meets one exactly where the line contains it. A closer `c c >` is found by three
-- states, by how many of its bytes were seen just before; with F1 the states of CDATA tell an odd run of `]` from an even one.
use Rattle.std.proofs.Common.{◌≡◌, refl, sym, ◌∙◌, ap, Bool, true, false, ◌&&◌, not, List, [], ◌∷◌, ℕ, suc, ◌+◌, ◌-◌, ◌%◌, ◌<◌, arith, eqb, ltb, length, eqb-true, eq-eqb, ne_eqb, lt-ltb, le-ltb}
use Rattle.std.proofs.Math.Bool.{and-false, and-true}
use Rattle.lexical.specs.Text.{byte, bytes, pick}
use Rattle.lexical.proofs.Cases.{split, clash}
use Rattle.rules.specs.Search.{choose, begins, before}
use Rattle.rules.specs.Block.{beforeEven, beforeCloser, closes}
use Rattle.rules.specs.declared.Rules.{Rules}
use Rattle.flow.specs.Answer.{kindNumber}
use Rattle.flow.specs.ContinuationMachine.{continuationOf, commentInsideOf, cdataInsideOf, declarationInsideOf, nextOf, isClose, closerLength, closedAt, meetsOf}
use Rattle.flow.specs.declared.html_flow.Kind.{Kind}
use Rattle.flow.specs.declared.html_flow.Kind.TheVariants.{Comment, Instruction, Declaration, Cdata}
use Rattle.flow.specs.declared.html_flow.ContinuationName.{ContinuationName}
use Rattle.flow.specs.declared.html_flow.ContinuationName.TheVariants.{Continuation, ContinuationCommentInside, ContinuationCdataInside, ContinuationDeclarationInside, ContinuationClose}
use Rattle.flow.proofs.ContinuationTurn.{on, here, met}

module _ (ρ : Rules) where
  -- ---- declarations: `>`
  declaration-at : (i : ℕ) (s : List ℕ) → closedAt ρ Declaration Continuation i s ≡ i + before (begins (bytes ">")) s
  unfolding closedAt continuationOf before
  declaration-at i [] = omega arith
  declaration-at i (x ∷ xs) = split (eqb x (byte ">")) (λ h. simp h (omega arith)) (λ h. simp h (declaration-at (i + 1) xs ∙ omega arith))

  -- ---- instructions: `?>`; behind a `?` too
  abbrev Instr0 : List ℕ → Type 0
  Instr0 s = (i : ℕ) → closedAt ρ Instruction Continuation i s ≡ i + before (begins (bytes "?>")) s

  abbrev Instr1 : List ℕ → Type 0
  Instr1 s = (i : ℕ) → closedAt ρ Instruction ContinuationDeclarationInside (i + 1) s ≡ i + before (begins (bytes "?>")) (byte "?" ∷ s)

  instr : (s : List ℕ) → Instr0 s × Instr1 s
  unfolding closedAt continuationOf declarationInsideOf before
  instr [] = ((λ i. omega arith), (λ i. omega arith))
  instr (x ∷ xs) =
      let ih = instr xs in (
        (λ i. split (eqb x (byte "?")) (λ h. rw (eqb-true x (byte "?") h) (ih.1 i)) (λ h. simp h (ih.0 (i + 1) ∙ omega arith))),
        (λ i. split (eqb x (byte ">")) (λ h. rw (eqb-true x (byte ">") h) (omega arith))
            (λ h. split (eqb x (byte "?")) (λ g. rw (eqb-true x (byte "?") g) (ih.1 (i + 1) ∙ omega arith)) (λ g. simp (h, g) (ih.0 (i + 1 + 1) ∙ omega arith)))),
      )

  -- ---- a closer of a byte c twice and `>`
  module _ (κ : Kind) (c : ℕ) (one : ContinuationName) (same : eqb c c ≡ true) (not_yet : isClose one ≡ false) (three : closerLength κ ≡ 3)
      (at_none : (x : ℕ) → continuationOf κ x ≡ pick (eqb x c) one Continuation)
      (at_one : (x : ℕ) → nextOf ρ κ one x ≡ pick (eqb x c) ContinuationDeclarationInside (continuationOf κ x))
      (at-two : (x : ℕ) → declarationInsideOf ρ κ x ≡ pick (eqb x c) ContinuationDeclarationInside (pick (eqb x (byte ">")) ContinuationClose (continuationOf κ x)))
      (mark : eqb (byte ">") c ≡ false) where
    abbrev closer : List ℕ → Bool
    closer s = begins (c ∷ c ∷ byte ">" ∷ []) s

    abbrev Seen0 : List ℕ → Type 0
    Seen0 s = (i : ℕ) → closedAt ρ κ Continuation i s ≡ i + before closer s

    abbrev Seen1 : List ℕ → Type 0
    Seen1 s = (i : ℕ) → closedAt ρ κ one (i + 1) s ≡ i + before closer (c ∷ s)

    abbrev Seen2 : List ℕ → Type 0
    Seen2 s = (i : ℕ) → closedAt ρ κ ContinuationDeclarationInside (i + 2) s ≡ i + before closer (c ∷ c ∷ s)

    step0 : (x : ℕ) (xs : List ℕ) → Seen0 xs → Seen1 xs → Seen0 (x ∷ xs)
    unfolding closedAt before
    step0 x xs a b i =
        split (eqb x c) (λ h. rw (eqb-true x c h) (simp (at_none, same, not_yet) (b i ∙ ap (λ t. i + t) (simp same refl))))
        (λ h. simp (at_none, h) (a (i + 1) ∙ omega arith))

    step1 : (x : ℕ) (xs : List ℕ) → Seen0 xs → Seen2 xs → Seen1 (x ∷ xs)
    unfolding closedAt before
    step1 x xs a b i =
        let two : i + 1 + 1 ≡ i + 2 = omega arith in
        split (eqb x c) (λ h. rw (eqb-true x c h) (simp (at_one, same, two) (b i ∙ simp same refl)))
        (λ h. simp (at_one, at_none, h, same, two) (a (i + 2) ∙ omega arith))

    apart : eqb c (byte ">") ≡ false
    apart = ne_eqb c (byte ">") (λ e. let z : eqb (byte ">") c ≡ true = eq-eqb (byte ">") c (sym e) in clash (eqb (byte ">") c) z mark)

    -- a third c moves the closer on
    slide : (xs : List ℕ) → before closer (c ∷ c ∷ c ∷ xs) ≡ suc (before closer (c ∷ c ∷ xs))
    unfolding before
    slide xs = simp (apart, same)

    other : (x : ℕ) (xs : List ℕ) → eqb x (byte ">") ≡ false → eqb x c ≡ false → before closer (c ∷ c ∷ x ∷ xs) ≡ 3 + before closer xs
    unfolding before
    other x xs j h = simp (j, h, same) (omega arith)

    found : (xs : List ℕ) → before closer (c ∷ c ∷ byte ">" ∷ xs) ≡ 0
    unfolding before
    found xs = simp same

    step2 : (x : ℕ) (xs : List ℕ) → Seen0 xs → Seen2 xs → Seen2 (x ∷ xs)
    step2 x xs a b i =
        let two : i + 2 + 1 ≡ i + 1 + 2 = omega arith in
        split (eqb x (byte ">"))
        (λ h. rw (eqb-true x (byte ">") h) (here ρ κ ContinuationDeclarationInside (i + 2) (byte ">") xs ContinuationClose (sym (at-two (byte ">") ∙ rw mark)) refl ∙ omega (arith, three, found xs)))
        (λ j. split (eqb x c)
        (λ h. rw (eqb-true x c h) (on ρ κ ContinuationDeclarationInside (i + 2) c xs ContinuationDeclarationInside (sym (at-two c ∙ rw same)) refl ∙ ap (λ n. closedAt ρ κ ContinuationDeclarationInside n xs) two ∙ b (i + 1) ∙ omega (arith, slide xs)))
        (λ h. on ρ κ ContinuationDeclarationInside (i + 2) x xs Continuation (sym (at-two x ∙ rw (h, j) (at_none x ∙ rw h))) refl ∙ a (i + 2 + 1) ∙ omega (arith, other x xs j h)))

    seen : (s : List ℕ) → Seen0 s × Seen1 s × Seen2 s
    unfolding closedAt before
    seen [] = ((λ i. omega arith), (λ i. simp same (omega arith)), (λ i. simp same (omega arith)))
    seen (x ∷ xs) = let ih = seen xs in (step0 x xs ih.0 ih.1, step1 x xs ih.0 ih.2, step2 x xs ih.0 ih.2)

  comment-at : (i : ℕ) (s : List ℕ) → closedAt ρ Comment Continuation i s ≡ i + before (begins (bytes "-->")) s
  unfolding continuationOf commentInsideOf declarationInsideOf
  comment-at i s = (seen Comment (byte "-") ContinuationCommentInside refl refl refl (λ x. refl) (λ x. refl) (λ x. refl) refl s).0 i

  -- ---- before `>` in CDATA, by whether F1 is made
  cdata-inside : (f : Bool) → ρ.f1 ≡ f → (x : ℕ)
      → declarationInsideOf ρ Cdata x ≡ pick (eqb x (byte "]") && not f) ContinuationDeclarationInside (pick (eqb x (byte ">")) ContinuationClose (continuationOf Cdata x))
  unfolding declarationInsideOf
  cdata-inside f e x = rw e

  cdata-at : ρ.f1 ≡ false → (i : ℕ) (s : List ℕ) → closedAt ρ Cdata Continuation i s ≡ i + before (begins (bytes "]]>")) s
  unfolding continuationOf cdataInsideOf
  cdata-at f i s =
      (seen Cdata (byte "]") ContinuationCdataInside refl refl refl (λ x. refl) (λ x. refl) (λ x. cdata-inside false f x ∙ rw (and-true (eqb x (byte "]")))) refl s).0 i

  -- ---- F1: a maximal, even, nonempty run of `]` before `>`
  module _ (f : ρ.f1 ≡ true) where
    -- by how many `]` stand just before: none, an odd number, an even one
    abbrev Even0 : List ℕ → Type 0
    Even0 s = (i : ℕ) → closedAt ρ Cdata Continuation i s ≡ i + beforeEven 0 s

    abbrev Even1 : List ℕ → Type 0
    Even1 s = (i n : ℕ) → n % 2 ≡ 0 → closedAt ρ Cdata ContinuationCdataInside (i + 1) s ≡ i + beforeEven n (byte "]" ∷ s)

    abbrev Even2 : List ℕ → Type 0
    Even2 s = (i n : ℕ) → n % 2 ≡ 0 → closedAt ρ Cdata ContinuationDeclarationInside (i + 2) s ≡ i + beforeEven n (byte "]" ∷ byte "]" ∷ s)

    reset0 : (n x : ℕ) (xs : List ℕ) → eqb x (byte "]") ≡ false → beforeEven n (x ∷ xs) ≡ suc (beforeEven 0 xs)
    unfolding beforeEven
    reset0 n x xs h = simp h

    reset1 : (n x : ℕ) (xs : List ℕ) → eqb x (byte "]") ≡ false → beforeEven n (byte "]" ∷ x ∷ xs) ≡ suc (suc (beforeEven 0 xs))
    unfolding beforeEven
    reset1 n x xs h = simp h

    reset2 : (n x : ℕ) (xs : List ℕ) → eqb x (byte "]") ≡ false → eqb x (byte ">") ≡ false → beforeEven n (byte "]" ∷ byte "]" ∷ x ∷ xs) ≡ suc (suc (suc (beforeEven 0 xs)))
    unfolding beforeEven
    reset2 n x xs h g = simp (h, g)

    at-mark : (n : ℕ) (xs : List ℕ) → n % 2 ≡ 0 → beforeEven n (byte "]" ∷ byte "]" ∷ byte ">" ∷ xs) ≡ 0
    unfolding beforeEven
    at-mark n xs e = simp (eq-eqb (n % 2) 0 e)

    odd-on : (n : ℕ) (s : List ℕ) → eqb (n % 2) 0 ≡ false → beforeEven n (byte "]" ∷ s) ≡ suc (beforeEven (suc n) s)
    unfolding beforeEven
    odd-on n s o = rw (o, and-false (begins (bytes "]]>") (byte "]" ∷ s)))

    two-on : (n : ℕ) (xs : List ℕ) → n % 2 ≡ 0 → beforeEven n (byte "]" ∷ byte "]" ∷ byte "]" ∷ xs) ≡ suc (suc (beforeEven (suc (suc n)) (byte "]" ∷ xs)))
    unfolding beforeEven
    two-on n xs e = let o : eqb (suc n % 2) 0 ≡ false = ne_eqb (suc n % 2) 0 (λ z. omega arith) in ap suc (odd-on (suc n) (byte "]" ∷ xs) o)

    inside : (x : ℕ) → declarationInsideOf ρ Cdata x ≡ pick (eqb x (byte ">")) ContinuationClose (continuationOf Cdata x)
    inside x = cdata-inside true f x ∙ rw (and-false (eqb x (byte "]")))

    abbrev bracket : ℕ
    bracket = byte "]"

    even : (s : List ℕ) → Even0 s × Even1 s × Even2 s
    unfolding closedAt continuationOf cdataInsideOf beforeEven
    even [] = ((λ i. omega arith), (λ i n e. omega arith), (λ i n e. omega arith))
    even (x ∷ xs) =
        let ih = even xs in (
          (λ i. split (eqb x bracket) (λ h. rw (eqb-true x bracket h) (on ρ Cdata Continuation i bracket xs ContinuationCdataInside refl refl ∙ ih.1 i 0 refl))
              (λ h. on ρ Cdata Continuation i x xs Continuation (rw h) refl ∙ ih.0 (i + 1) ∙ omega (arith, reset0 0 x xs h))),
          (λ i n e. split (eqb x bracket)
              (λ h. rw (eqb-true x bracket h) (on ρ Cdata ContinuationCdataInside (i + 1) bracket xs ContinuationDeclarationInside refl refl ∙ ap (λ m. closedAt ρ Cdata ContinuationDeclarationInside m xs) (plus i) ∙ ih.2 i n e))
              (λ h. on ρ Cdata ContinuationCdataInside (i + 1) x xs Continuation (rw h) refl ∙ ih.0 (i + 1 + 1) ∙ omega (arith, reset1 n x xs h))),
          (λ i n e. split (eqb x (byte ">"))
              (λ g. rw (eqb-true x (byte ">") g) (here ρ Cdata ContinuationDeclarationInside (i + 2) (byte ">") xs ContinuationClose (sym (inside (byte ">"))) refl ∙ omega (arith, at-mark n xs e)))
              (λ g. split (eqb x bracket)
              (λ h. rw (eqb-true x bracket h) (on ρ Cdata ContinuationDeclarationInside (i + 2) bracket xs ContinuationCdataInside (sym (inside bracket)) refl ∙ ih.1 (i + 2) (suc (suc n)) (omega arith) ∙ omega (arith, two-on n xs e)))
              (λ h. on ρ Cdata ContinuationDeclarationInside (i + 2) x xs Continuation (sym (inside x ∙ rw (g, h))) refl ∙ ih.0 (i + 2 + 1) ∙ omega (arith, reset2 n x xs h g)))),
        )
      where
        plus : (i : ℕ) → i + 1 + 1 ≡ i + 2
        plus i = omega arith

  -- ---- by kinds
  abbrev pub Finds : Kind → Type 0
  Finds κ = (s : List ℕ) → closedAt ρ κ Continuation 0 s ≡ beforeCloser ρ (kindNumber κ) s

  pub finds-comment : Finds Comment
  unfolding beforeCloser
  finds-comment s = comment-at 0 s ∙ omega arith

  pub finds-instruction : Finds Instruction
  unfolding beforeCloser
  finds-instruction s = (instr s).0 0 ∙ omega arith

  pub finds-declaration : Finds Declaration
  unfolding beforeCloser
  finds-declaration s = declaration-at 0 s ∙ omega arith

  pub finds-cdata : Finds Cdata
  unfolding beforeCloser
  finds-cdata s =
      let by : (f : Bool) → ρ.f1 ≡ f → choose f (λ _. beforeEven 0 s) (λ _. before (begins (bytes "]]>")) s) ≡ choose ρ.f1 (λ _. beforeEven 0 s) (λ _. before (begins (bytes "]]>")) s) = λ f e. rw e in
      split ρ.f1 (λ f. omega (arith, (even f s).0 0, by true f)) (λ f. omega (arith, cdata-at f 0 s, by false f))

  -- ---- a closer is met exactly where it begins before the end
  meets-at : (κ : Kind) → 0 < closerLength κ → (s : ContinuationName) (i : ℕ) (xs : List ℕ) → isClose s ≡ false → meetsOf ρ κ s xs ≡ ltb (closedAt ρ κ s i xs) (i + length xs)
  unfolding meetsOf closedAt
  meets-at κ z s i [] c = c ∙ sym (le-ltb i (i + 0) (omega arith))
  meets-at κ z s i (x ∷ xs) c =
      split (isClose (nextOf ρ κ s x))
      (λ h. rw (c, h) (met ρ κ (nextOf ρ κ s x) xs h ∙ sym (lt-ltb (i + 1 - closerLength κ) (i + suc (length xs)) (omega arith))))
      (λ h. let e : i + 1 + length xs ≡ i + suc (length xs) = omega arith in rw (c, h) (meets-at κ z (nextOf ρ κ s x) (i + 1) xs h ∙ ap (ltb (closedAt ρ κ (nextOf ρ κ s x) (i + 1) xs)) e))

  pub meets : (κ : Kind) → 0 < closerLength κ → Finds κ → (s : List ℕ) → meetsOf ρ κ Continuation s ≡ closes ρ (kindNumber κ) s
  unfolding closes
  meets κ z e s = let n : 0 + length s ≡ length s = omega arith in meets-at κ z Continuation 0 s refl ∙ rw (e s, n)
