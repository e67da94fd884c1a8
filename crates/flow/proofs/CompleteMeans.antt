-- The run of the complete states says whether the rest of a line completes a tag and fills the line. A state that stays at a class of bytes passes the class;
-- what follows a tag name or an attribute is shown by induction on the number of attributes that the grammar allows, and a value by the number of values.
use Rattle.std.proofs.Common.{◌≡◌, refl, sym, ◌∙◌, ap, Bool, true, false, ◌||◌, not, List, [], ◌∷◌, ℕ, zero, suc, ◌<◌, arith, eqb, drop, length, eqb-true}
use Rattle.std.proofs.lemmas.Bool.{or_parts}
use borrow.Author.Tests.{not-false, not-true}
use Rattle.lexical.specs.Text.{byte, bytes, pick, first, run}
use Rattle.lexical.specs.Byte.{isAttributeNameByte, isSpaceOrTab, isLineEndingByte, isWhitespace, isQuote, isValueExcluded, isTagBreak, isNameStart, isValueEnd}
use Rattle.lexical.specs.Line.{isBlank}
use Rattle.lexical.proofs.Cases.{split}
use Rattle.lexical.proofs.Classes.{name-start-no, break-start-no, end-start-no}
use Rattle.rules.specs.Search.{choose, begins, past, Left, nothing, exactly}
use Rattle.rules.specs.Tag.{Grammar, blockTags, tagEnd, pastQuote, specification, isValueByte, value, values, attribute, attributes}
use Rattle.rules.specs.Block.{fillsLine}
use Rattle.rules.specs.declared.Rules.{Rules}
use Rattle.rules.proofs.Past.{past-none, past-cases, past-length}
use Rattle.flow.specs.CompleteMachine.{endOf, afterOf, closingTagAfterOf, nameBeforeOf, nameAfterOf, nameOf, valueQuotedOf, valueQuotedAfterOf, valueUnquotedOf, valueBeforeOf, stepOf, accepts, runOf}
use Rattle.flow.specs.declared.tokenizer.StateName.{StateName}
use Rattle.flow.specs.declared.tokenizer.StateName.TheVariants.{CompleteClosingTagAfter, CompleteAttributeNameBefore, CompleteAttributeName, CompleteAttributeNameAfter, CompleteAttributeValueBefore, CompleteAttributeValueQuoted, CompleteAttributeValueQuotedAfter, CompleteAttributeValueUnquoted, CompleteEnd, CompleteAfter}
use Rattle.flow.specs.declared.tokenizer.State.{State}
use Rattle.flow.specs.declared.tokenizer.State.TheVariants.{Next, Nok}

module _ (ρ : Rules) where
  abbrev g : Grammar
  g = blockTags ρ

  -- ---- a state that stays at each byte of a class, and at any other does what st' does
  module _ (f : ℕ → Bool) (st st' : StateName) (end : accepts st ≡ accepts st') (on : (x : ℕ) → f x ≡ true → stepOf ρ st x ≡ Next st)
      (off : (x : ℕ) → f x ≡ false → stepOf ρ st x ≡ stepOf ρ st' x) where
    span : (s : List ℕ) → runOf ρ st s ≡ runOf ρ st' (past f s)
    unfolding runOf past
    span [] = end
    span (x ∷ xs) = split (f x) (λ h. simp (on x h, h) (span xs)) (λ h. simp (off x h, h))

  before-span : (s : List ℕ) → runOf ρ CompleteAttributeNameBefore s ≡ runOf ρ CompleteAttributeNameBefore (past isWhitespace s)
  unfolding nameBeforeOf
  before-span s = span isWhitespace CompleteAttributeNameBefore CompleteAttributeNameBefore refl (λ x h. simp h) (λ x h. refl) s

  name-after-span : (s : List ℕ) → runOf ρ CompleteAttributeNameAfter s ≡ runOf ρ CompleteAttributeNameAfter (past isWhitespace s)
  unfolding nameAfterOf
  name-after-span s = span isWhitespace CompleteAttributeNameAfter CompleteAttributeNameAfter refl (λ x h. simp h) (λ x h. refl) s

  name-span : (s : List ℕ) → runOf ρ CompleteAttributeName s ≡ runOf ρ CompleteAttributeNameAfter (past isAttributeNameByte s)
  unfolding nameOf
  name-span s = span isAttributeNameByte CompleteAttributeName CompleteAttributeNameAfter refl (λ x h. simp h) (λ x h. simp h) s

  value-span : (s : List ℕ) → runOf ρ CompleteAttributeValueBefore s ≡ runOf ρ CompleteAttributeValueBefore (past isWhitespace s)
  unfolding valueBeforeOf
  value-span s = span isWhitespace CompleteAttributeValueBefore CompleteAttributeValueBefore refl (λ x h. simp h) (λ x h. refl) s

  quoted-span : (m : ℕ) (s : List ℕ) → runOf ρ (CompleteAttributeValueQuoted m) s ≡ runOf ρ (CompleteAttributeValueQuoted m) (past (λ b. not (eqb b m)) s)
  unfolding valueQuotedOf
  quoted-span m s =
      span (λ b. not (eqb b m)) (CompleteAttributeValueQuoted m) (CompleteAttributeValueQuoted m) refl (λ x h. simp (not-true (eqb x m) h)) (λ x h. refl) s

  unquoted-on : (x : ℕ) → isValueByte g x ≡ true → valueUnquotedOf ρ x ≡ Next CompleteAttributeValueUnquoted
  unfolding valueUnquotedOf
  unquoted-on x h = rw (not-true (isValueEnd ρ.f4 x) h)

  -- F5: an unquoted value ends as a name does, else as a quoted value does
  unquoted-off : (x : ℕ) (b : Bool) → ρ.f5 ≡ b → isValueByte g x ≡ false → valueUnquotedOf ρ x ≡ pick b (nameAfterOf ρ x) (valueQuotedAfterOf ρ x)
  unfolding valueUnquotedOf
  unquoted-off x b f h = rw (not-false (isValueEnd ρ.f4 x) h) (ap (λ t. pick t (nameAfterOf ρ x) (valueQuotedAfterOf ρ x)) f)

  further-span : ρ.f5 ≡ true → (s : List ℕ) → runOf ρ CompleteAttributeValueUnquoted s ≡ runOf ρ CompleteAttributeNameAfter (past (isValueByte g) s)
  further-span f s = span (isValueByte g) CompleteAttributeValueUnquoted CompleteAttributeNameAfter refl unquoted-on (λ x h. unquoted-off x true f h) s

  single-span : ρ.f5 ≡ false → (s : List ℕ) → runOf ρ CompleteAttributeValueUnquoted s ≡ runOf ρ CompleteAttributeValueQuotedAfter (past (isValueByte g) s)
  single-span f s = span (isValueByte g) CompleteAttributeValueUnquoted CompleteAttributeValueQuotedAfter refl unquoted-on (λ x h. unquoted-off x false f h) s

  -- ---- the end of a tag
  blank-is : (s : List ℕ) → runOf ρ CompleteAfter s ≡ isBlank s
  unfolding runOf afterOf isBlank run
  blank-is [] = refl
  blank-is (x ∷ xs) = split (isSpaceOrTab x) (λ h. simp h (blank-is xs)) (λ h. split (isLineEndingByte x) (λ e. simp (h, e)) (λ e. simp (h, e)))

  end-is : (s : List ℕ) → runOf ρ CompleteEnd s ≡ fillsLine (tagEnd (byte "/" ∷ s))
  unfolding runOf endOf tagEnd
  end-is [] = refl
  end-is (x ∷ xs) = split (eqb x (byte ">")) (λ h. simp h (blank-is xs)) (λ h. simp h)

  slash-is : (s : List ℕ) → runOf ρ CompleteAttributeNameBefore (byte "/" ∷ s) ≡ fillsLine (tagEnd (byte "/" ∷ s))
  unfolding runOf nameBeforeOf
  slash-is s = end-is s

  -- ---- what a state does at a byte that is no whitespace
  before-at : (x : ℕ) → isWhitespace x ≡ false → nameBeforeOf ρ x ≡ pick (eqb x (byte "/")) (Next CompleteEnd) (pick (isNameStart ρ.f2 x) (Next CompleteAttributeName) (endOf x))
  unfolding nameBeforeOf
  before-at x h = ap (λ t. pick t (Next CompleteAttributeNameBefore) (pick (eqb x (byte "/")) (Next CompleteEnd) (pick (isNameStart ρ.f2 x) (Next CompleteAttributeName) (endOf x)))) h

  name-after-at : (x : ℕ) → isWhitespace x ≡ false → nameAfterOf ρ x ≡ pick (eqb x (byte "=")) (Next CompleteAttributeValueBefore) (nameBeforeOf ρ x)
  unfolding nameAfterOf
  name-after-at x h = ap (λ t. pick t (Next CompleteAttributeNameAfter) (pick (eqb x (byte "=")) (Next CompleteAttributeValueBefore) (nameBeforeOf ρ x))) h

  abbrev valued : ℕ → State
  valued x = pick (isQuote x) (Next (CompleteAttributeValueQuoted x)) (pick (isValueExcluded x) Nok (valueUnquotedOf ρ x))

  value-at : (x : ℕ) → isWhitespace x ≡ false → valueBeforeOf ρ x ≡ valued x
  unfolding valueBeforeOf
  value-at x h = ap (λ t. pick t (Next CompleteAttributeValueBefore) (valued x)) h

  -- ---- behind an attribute or a tag name
  run-alike : (st st' : StateName) (x : ℕ) (xs : List ℕ) → stepOf ρ st x ≡ stepOf ρ st' x → runOf ρ st (x ∷ xs) ≡ runOf ρ st' (x ∷ xs)
  unfolding runOf
  run-alike st st' x xs e = rw e

  after-at : (x : ℕ) → isNameStart ρ.f2 x ≡ false → valueQuotedAfterOf ρ x ≡ nameBeforeOf ρ x
  unfolding valueQuotedAfterOf endOf
  after-at x start =
      split (isTagBreak x) (λ t. rw t)
      (λ t.
      let o = (or_parts (isWhitespace x) (eqb x (byte "/") || eqb x (byte ">")) t).1 in
      rw (t, before-at x (or_parts (isWhitespace x) (eqb x (byte "/") || eqb x (byte ">")) t).0, (or_parts (eqb x (byte "/")) (eqb x (byte ">")) o).0, start, (or_parts (eqb x (byte "/")) (eqb x (byte ">")) o).1))

  after-between : (x : ℕ) (xs : List ℕ) → isNameStart ρ.f2 x ≡ false
      → runOf ρ CompleteAttributeValueQuotedAfter (x ∷ xs) ≡ runOf ρ CompleteAttributeNameBefore (past isWhitespace (x ∷ xs))
  after-between x xs start = run-alike CompleteAttributeValueQuotedAfter CompleteAttributeNameBefore x xs (after-at x start) ∙ before-span (x ∷ xs)

  -- ---- with what is known of shorter texts
  abbrev After : ℕ → Type 0
  After n = (s : List ℕ) → length s < n → runOf ρ CompleteAttributeValueQuotedAfter s ≡ fillsLine (attributes g n s)

  module _ (n : ℕ) (ih : After n) where
    quoted-is : (m : ℕ) (s : List ℕ) → length s < n
        → runOf ρ (CompleteAttributeValueQuoted m) s ≡ fillsLine (pastQuote (attributes g n) (past (λ b. not (eqb b m)) s))
    unfolding valueQuotedOf runOf
    quoted-is m s l =
        quoted-span m s
        ∙ past-cases (λ q. runOf ρ (CompleteAttributeValueQuoted m) q ≡ fillsLine (pastQuote (attributes g n) q)) (λ b. not (eqb b m)) s refl
        (λ y ys e le. simp (not-false (eqb y m) e) (ih ys (omega arith)))

    -- the text ends with a name or a value
    ends : (again : List ℕ → Left) → 0 < n → runOf ρ CompleteAttributeNameAfter [] ≡ fillsLine (specification (attributes g n) again [])
    unfolding runOf past
    ends again l = ih [] l

    -- behind a name, or with F5 behind an unquoted value: it ends at x, which begins no attribute
    specification-is : (again : List ℕ → Left) (x : ℕ) (xs : List ℕ) → isNameStart ρ.f2 x ≡ false → length (x ∷ xs) < n
        → ((s : List ℕ) → length s < length (x ∷ xs) → runOf ρ CompleteAttributeValueBefore s ≡ fillsLine (again (past isWhitespace s)))
        → runOf ρ CompleteAttributeNameAfter (x ∷ xs) ≡ fillsLine (specification (attributes g n) again (x ∷ xs))
    unfolding runOf
    specification-is again x xs start l are =
        name-after-span (x ∷ xs)
        ∙ past-cases
        (λ t. runOf ρ CompleteAttributeNameBefore t ≡ fillsLine (attributes g n (x ∷ xs))
        → runOf ρ CompleteAttributeNameAfter t ≡ fillsLine (choose (begins (bytes "=") t) (λ _. again (past isWhitespace (drop 1 t))) (λ _. attributes g n (x ∷ xs))))
        isWhitespace (x ∷ xs) (λ e. e)
        (λ y ys sp le e. split (eqb y (byte "=")) (λ q. rw (name-after-at y sp, q) (are ys (omega arith))) (λ q. rw (name-after-at y sp, q) e))
        (sym (after-between x xs start) ∙ ih (x ∷ xs) l)

    -- what follows an unquoted value
    abbrev afterUnquoted : (List ℕ → Left) → List ℕ → Left
    afterUnquoted again s = choose ρ.f5 (λ _. specification (attributes g n) again s) (λ _. attributes g n s)

    unquoted-is : (again : List ℕ → Left) (s : List ℕ) → length s < n
        → ((t : List ℕ) → length t < length s → runOf ρ CompleteAttributeValueBefore t ≡ fillsLine (again (past isWhitespace t)))
        → runOf ρ CompleteAttributeValueUnquoted s ≡ fillsLine (afterUnquoted again (past (isValueByte g) s))
    unquoted-is again s l are =
        split ρ.f5
        (λ f. further-span f s
        ∙ past-cases (λ t. runOf ρ CompleteAttributeNameAfter t ≡ fillsLine (specification (attributes g n) again t)) (isValueByte g) s (ends again (omega arith))
        (λ y ys e le. specification-is again y ys (end-start-no ρ.f2 ρ.f4 y (not-false (isValueEnd ρ.f4 y) e)) (omega arith) (λ t m. are t (omega arith)))
        ∙ ap (λ b. fillsLine (choose b (λ _. specification (attributes g n) again (past (isValueByte g) s)) (λ _. attributes g n (past (isValueByte g) s)))) (sym f))
        (λ f. single-span f s
        ∙ ih (past (isValueByte g) s) (omega (arith, past-length (isValueByte g) s))
        ∙ ap (λ b. fillsLine (choose b (λ _. specification (attributes g n) again (past (isValueByte g) s)) (λ _. attributes g n (past (isValueByte g) s)))) (sym f))

    -- the first byte of an unquoted value is read in the state of the value
    unquoted-first : (x : ℕ) (xs : List ℕ) → isWhitespace x ≡ false → isQuote x ≡ false → isValueExcluded x ≡ false
        → runOf ρ CompleteAttributeValueBefore (x ∷ xs) ≡ runOf ρ CompleteAttributeValueUnquoted (x ∷ xs)
    unquoted-first x xs sp q a =
        run-alike CompleteAttributeValueBefore CompleteAttributeValueUnquoted x xs
        (value-at x sp
        ∙ ap (λ t. pick t (Next (CompleteAttributeValueQuoted x)) (pick (isValueExcluded x) Nok (valueUnquotedOf ρ x))) q
        ∙ ap (λ t. pick t Nok (valueUnquotedOf ρ x)) a)

    value-open : (m x : ℕ) (xs : List ℕ) → isQuote x ≡ false → isValueExcluded x ≡ false
        → value g (attributes g n) (values g (attributes g n) m) (x ∷ xs) ≡ afterUnquoted (values g (attributes g n) m) (past (isValueByte g) (x ∷ xs))
    value-open m x xs q a =
        ap (λ t. choose t (λ _. pastQuote (attributes g n) (past (λ b. not (eqb b x)) xs)) (λ _. choose (isValueExcluded x) (λ _. nothing) (λ _. afterUnquoted (values g (attributes g n) m) (past (isValueByte g) (x ∷ xs))))) q
        ∙ ap (λ t. choose t (λ _. nothing) (λ _. afterUnquoted (values g (attributes g n) m) (past (isValueByte g) (x ∷ xs)))) a

    value-case : (m x : ℕ) (xs : List ℕ) → isWhitespace x ≡ false → length (x ∷ xs) < n
        → ((t : List ℕ) → length t < length (x ∷ xs) → runOf ρ CompleteAttributeValueBefore t ≡ fillsLine (values g (attributes g n) m (past isWhitespace t)))
        → runOf ρ CompleteAttributeValueBefore (x ∷ xs) ≡ fillsLine (value g (attributes g n) (values g (attributes g n) m) (x ∷ xs))
    unfolding runOf
    value-case m x xs sp l are =
        split (isQuote x) (λ q. rw (value-at x sp, q) (quoted-is x xs (omega arith)))
        (λ q. split (isValueExcluded x) (λ a. let u = rw q at a in rw (value-at x sp, q, u))
        (λ a. unquoted-first x xs sp q a ∙ unquoted-is (values g (attributes g n) m) (x ∷ xs) l are ∙ ap fillsLine (sym (value-open m x xs q a))))

    value-is : (m : ℕ) (s : List ℕ) → length s < m → length s < n → runOf ρ CompleteAttributeValueBefore s ≡ fillsLine (values g (attributes g n) m (past isWhitespace s))
    unfolding runOf values
    value-is zero s k l = absurd (omega arith)
    value-is (suc m) s k l =
        value-span s
        ∙ past-cases (λ v. runOf ρ CompleteAttributeValueBefore v ≡ fillsLine (value g (attributes g n) (values g (attributes g n) m) v)) isWhitespace s refl
        (λ x xs sp le. value-case m x xs sp (omega arith) (λ t u. value-is m t (omega arith) (omega arith)))

    name-is : (s : List ℕ) → length s < n → runOf ρ CompleteAttributeName s ≡ fillsLine (attribute g (attributes g n) s)
    name-is s l =
        name-span s
        ∙ past-cases (λ r. runOf ρ CompleteAttributeNameAfter r ≡ fillsLine (specification (attributes g n) (values g (attributes g n) (length s)) r)) isAttributeNameByte s (ends (values g (attributes g n) (length s)) (omega arith))
        (λ x xs h le. specification-is (values g (attributes g n) (length s)) x xs (name-start-no ρ.f2 x h) (omega arith) (λ t m. value-is (length s) t (omega arith) (omega arith)))

    between-is : (s : List ℕ) → length s < suc n
        → runOf ρ CompleteAttributeNameBefore s
        ≡ fillsLine (choose (isNameStart ρ.f2 (first (past isWhitespace s))) (λ _. attribute g (attributes g n) (drop 1 (past isWhitespace s))) (λ _. tagEnd (past isWhitespace s)))
    unfolding runOf endOf tagEnd
    between-is s l =
        before-span s
        ∙ past-cases (λ t. runOf ρ CompleteAttributeNameBefore t ≡ fillsLine (choose (isNameStart ρ.f2 (first t)) (λ _. attribute g (attributes g n) (drop 1 t)) (λ _. tagEnd t))) isWhitespace s refl
        (λ x xs sp le. split (eqb x (byte "/")) (λ e. rw (eqb-true x (byte "/") e) (slash-is xs))
        (λ e. split (isNameStart ρ.f2 x) (λ a. rw (before-at x sp, e, a) (name-is xs (omega arith)))
        (λ a. split (eqb x (byte ">")) (λ j. rw (before-at x sp, e, a, j) (blank-is xs)) (λ j. rw (before-at x sp, e, a, j)))))

  -- ---- behind a tag name or an attribute
  at-break : (x : ℕ) → isTagBreak x ≡ true → valueQuotedAfterOf ρ x ≡ nameBeforeOf ρ x
  unfolding valueQuotedAfterOf
  at-break x t = rw t

  after-nil : (n : ℕ) → runOf ρ CompleteAttributeValueQuotedAfter [] ≡ fillsLine (attributes g (suc n) [])
  unfolding runOf attributes past tagEnd
  after-nil n = refl

  attributes-spaced : (n x : ℕ) (xs : List ℕ) → isWhitespace x ≡ true
      → attributes g (suc n) (x ∷ xs) ≡ choose (isNameStart ρ.f2 (first (past isWhitespace (x ∷ xs)))) (λ _. attribute g (attributes g n) (drop 1 (past isWhitespace (x ∷ xs)))) (λ _. tagEnd (past isWhitespace (x ∷ xs)))
  unfolding attributes
  attributes-spaced n x xs sp = rw sp

  attributes-end : (n x : ℕ) (xs : List ℕ) → isWhitespace x ≡ false → attributes g (suc n) (x ∷ xs) ≡ tagEnd (x ∷ xs)
  unfolding attributes
  attributes-end n x xs sp = rw (past-none isWhitespace x xs sp, sp)

  no-break : (x : ℕ) (xs : List ℕ) → isTagBreak x ≡ false → runOf ρ CompleteAttributeValueQuotedAfter (x ∷ xs) ≡ fillsLine (tagEnd (x ∷ xs))
  unfolding runOf valueQuotedAfterOf tagEnd
  no-break x xs t =
      let o = (or_parts (isWhitespace x) (eqb x (byte "/") || eqb x (byte ">")) t).1 in
      simp (t, (or_parts (isWhitespace x) (eqb x (byte "/") || eqb x (byte ">")) t).0, (or_parts (eqb x (byte "/")) (eqb x (byte ">")) o).0, (or_parts (eqb x (byte "/")) (eqb x (byte ">")) o).1)

  after-is : (n : ℕ) → After n
  after-is zero s l = absurd (omega arith)
  after-is (suc n) [] l = after-nil n
  after-is (suc n) (x ∷ xs) l =
      split (isTagBreak x)
      (λ t.
      let b = run-alike CompleteAttributeValueQuotedAfter CompleteAttributeNameBefore x xs (at-break x t) ∙ between-is n (after-is n) (x ∷ xs) l in
      split (isWhitespace x) (λ sp. b ∙ ap fillsLine (sym (attributes-spaced n x xs sp)))
      (λ sp. rw (attributes-end n x xs sp) (rw (past-none isWhitespace x xs sp, break-start-no ρ.f2 x t) at b)))
      (λ t. rw (attributes-end n x xs (or_parts (isWhitespace x) (eqb x (byte "/") || eqb x (byte ">")) t).0) (no-break x xs t))

  -- behind an open tag's name, and behind a closing tag's
  pub open-is : (n : ℕ) (s : List ℕ) → length s < n → runOf ρ CompleteAttributeValueQuotedAfter s ≡ fillsLine (attributes g n s)
  open-is n s l = after-is n s l

  close-at : (x : ℕ) → isWhitespace x ≡ false → closingTagAfterOf x ≡ endOf x
  unfolding closingTagAfterOf
  close-at x h = ap (λ t. pick t (Next CompleteClosingTagAfter) (endOf x)) h

  close-span : (s : List ℕ) → runOf ρ CompleteClosingTagAfter s ≡ runOf ρ CompleteClosingTagAfter (past isWhitespace s)
  unfolding closingTagAfterOf
  close-span s = span isWhitespace CompleteClosingTagAfter CompleteClosingTagAfter refl (λ x h. simp h) (λ x h. refl) s

  pub close-is : (s : List ℕ) → runOf ρ CompleteClosingTagAfter s ≡ fillsLine (exactly (bytes ">") (past isWhitespace s))
  unfolding runOf endOf
  close-is s =
      close-span s
      ∙ past-cases (λ t. runOf ρ CompleteClosingTagAfter t ≡ fillsLine (exactly (bytes ">") t)) isWhitespace s refl
      (λ x xs sp le. split (eqb x (byte ">")) (λ h. rw (close-at x sp, h) (blank-is xs)) (λ h. rw (close-at x sp, h)))
