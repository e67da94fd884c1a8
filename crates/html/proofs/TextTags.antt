-- The run in the states of tags leaves what the grammar of tags says. A state that stays at a class of bytes passes the class; what follows a tag name or an
-- attribute is shown by induction on the number of attributes that the grammar allows, each of which has a byte.
use Rattle.std.proofs.Common.{◌≡◌, refl, sym, ◌∙◌, ap, Bool, true, false, ◌||◌, not, List, [], ◌∷◌, ℕ, zero, suc, ◌<◌, ◌≤◌, arith, eqb, drop, length, eqb-true}
use Rattle.std.proofs.lemmas.Bool.{or_parts}
use Rattle.std.proofs.Math.Bool.{or-false}
use borrow.Author.Tests.{not-false, not-true}
use Rattle.lexical.specs.Text.{byte, bytes, pick, first}
use Rattle.lexical.specs.Byte.{isDigit, isTagNameByte, isAttributeNameStart, isAttributeNameByte, isSpaceOrTab, isLineEndingByte, isWhitespace, isQuote, isValueExcluded, isTagBreak, isValueEnd}
use Rattle.lexical.proofs.Cases.{split}
use Rattle.lexical.proofs.Classes.{name-start-no, break-start-no}
use Rattle.rules.specs.Search.{choose, begins, past, Left, exactly}
use Rattle.rules.specs.Tag.{Grammar, inlineTags, tagEnd, pastQuote, specification, startsName, isValueByte, value, values, attribute, attributes}
use Rattle.rules.specs.Inline.{carrying}
use Rattle.rules.specs.declared.Rules.{Rules}
use Rattle.rules.proofs.Past.{past-none, past-cases, past-length}
use Rattle.html.specs.TextMachine.{spaced, stepOf, runOf, endOf, tagCloseOf, tagCloseBetweenOf, tagOpenOf, tagOpenBetweenOf, attributeNameOf, attributeNameAfterOf, valueBeforeOf, valueQuotedOf, valueQuotedAfterOf, valueUnquotedOf}
use Rattle.html.specs.declared.tokenizer.StateName.{StateName}
use Rattle.html.specs.declared.tokenizer.StateName.TheVariants.{TagClose, TagCloseBetween, TagOpen, TagOpenBetween, TagOpenAttributeName, TagOpenAttributeNameAfter, TagOpenAttributeValueBefore, TagOpenAttributeValueQuoted, TagOpenAttributeValueQuotedAfter, TagOpenAttributeValueUnquoted, End}
use Rattle.html.specs.declared.tokenizer.State.{State}
use Rattle.html.specs.declared.tokenizer.State.TheVariants.{Next, Nok}

-- the two tests for whitespace are one
spaced-is : (b : ℕ) (stay go : State) → spaced b stay go ≡ pick (isWhitespace b) stay go
spaced-is b stay go =
    split (isLineEndingByte b) (λ h. split (isSpaceOrTab b) (λ g. simp (g, h)) (λ g. simp (g, h))) (λ h. split (isSpaceOrTab b) (λ g. simp (g, h)) (λ g. simp (g, h)))

is-spaced : (b : ℕ) (stay go : State) → isWhitespace b ≡ true → spaced b stay go ≡ stay
is-spaced b stay go h = spaced-is b stay go ∙ ap (λ t. pick t stay go) h

not-spaced : (b : ℕ) (stay go : State) → isWhitespace b ≡ false → spaced b stay go ≡ go
not-spaced b stay go h = spaced-is b stay go ∙ ap (λ t. pick t stay go) h

module _ (ρ : Rules) (k : ℕ) where
  abbrev g : Grammar
  g = inlineTags ρ

  -- a state that stays at each byte of a class, and at any other does what st' does
  module _ (f : ℕ → Bool) (st st' : StateName) (on : (x : ℕ) → f x ≡ true → stepOf ρ st k x ≡ Next st k)
      (off : (x : ℕ) → f x ≡ false → stepOf ρ st k x ≡ stepOf ρ st' k x) where
    span : (s : List ℕ) → runOf ρ st k s ≡ runOf ρ st' k (past f s)
    unfolding runOf past
    span [] = refl
    span (x ∷ xs) = split (f x) (λ h. simp (on x h, h) (span xs)) (λ h. simp (off x h, h))

  between-span : (s : List ℕ) → runOf ρ TagOpenBetween k s ≡ runOf ρ TagOpenBetween k (past isWhitespace s)
  unfolding tagOpenBetweenOf
  between-span s = span isWhitespace TagOpenBetween TagOpenBetween (λ x h. is-spaced x _ _ h) (λ x h. refl) s

  name-after-span : (s : List ℕ) → runOf ρ TagOpenAttributeNameAfter k s ≡ runOf ρ TagOpenAttributeNameAfter k (past isWhitespace s)
  unfolding attributeNameAfterOf
  name-after-span s = span isWhitespace TagOpenAttributeNameAfter TagOpenAttributeNameAfter (λ x h. is-spaced x _ _ h) (λ x h. refl) s

  name-span : (s : List ℕ) → runOf ρ TagOpenAttributeName k s ≡ runOf ρ TagOpenAttributeNameAfter k (past isAttributeNameByte s)
  unfolding attributeNameOf
  name-span s = span isAttributeNameByte TagOpenAttributeName TagOpenAttributeNameAfter (λ x h. simp h) (λ x h. simp h) s

  before-span : (s : List ℕ) → runOf ρ TagOpenAttributeValueBefore k s ≡ runOf ρ TagOpenAttributeValueBefore k (past isWhitespace s)
  unfolding valueBeforeOf
  before-span s = span isWhitespace TagOpenAttributeValueBefore TagOpenAttributeValueBefore (λ x h. is-spaced x _ _ h) (λ x h. refl) s

  quoted-span : (m : ℕ) (s : List ℕ) → runOf ρ (TagOpenAttributeValueQuoted m) k s ≡ runOf ρ (TagOpenAttributeValueQuoted m) k (past (λ b. not (eqb b m)) s)
  unfolding valueQuotedOf
  quoted-span m s =
      span (λ b. not (eqb b m)) (TagOpenAttributeValueQuoted m) (TagOpenAttributeValueQuoted m) (λ x h. simp (not-true (eqb x m) h)) (λ x h. refl) s

  tag-span : (s : List ℕ) → runOf ρ TagOpen k s ≡ runOf ρ TagOpenAttributeValueQuotedAfter k (past isTagNameByte s)
  unfolding tagOpenOf valueQuotedAfterOf
  tag-span s = span isTagNameByte TagOpen TagOpenAttributeValueQuotedAfter (λ x h. simp h) (λ x h. simp h) s

  -- ---- unquoted values
  unquoted-span : (s : List ℕ) → runOf ρ TagOpenAttributeValueUnquoted k s ≡ runOf ρ TagOpenAttributeValueQuotedAfter k (past (isValueByte g) s)
  unfolding valueUnquotedOf valueQuotedAfterOf
  unquoted-span s =
      span (isValueByte g) TagOpenAttributeValueUnquoted TagOpenAttributeValueQuotedAfter
      (λ x h. rw (not-true (isValueEnd ρ.t1 x) h))
      (λ x h. rw (not-false (isValueEnd ρ.t1 x) h))
      s

  -- ---- classes
  -- no inline attribute name begins with a digit
  starts-is : (x : ℕ) → startsName g x ≡ isAttributeNameStart x
  starts-is x = split (isDigit x) (λ d. rw d (or-false (isAttributeNameStart x))) (λ d. rw d (or-false (isAttributeNameStart x)))

  -- ---- what a state does at a byte that is no whitespace
  between-at : (x : ℕ) → isWhitespace x ≡ false → tagOpenBetweenOf k x ≡ pick (eqb x (byte "/")) (Next End k) (pick (isAttributeNameStart x) (Next TagOpenAttributeName k) (endOf x))
  unfolding tagOpenBetweenOf
  between-at x h = not-spaced x _ _ h

  name-after-at : (x : ℕ) → isWhitespace x ≡ false → attributeNameAfterOf k x ≡ pick (eqb x (byte "=")) (Next TagOpenAttributeValueBefore k) (tagOpenBetweenOf k x)
  unfolding attributeNameAfterOf
  name-after-at x h = not-spaced x _ _ h

  before-at : (x : ℕ) → isWhitespace x ≡ false
      → valueBeforeOf k x ≡ pick (isQuote x) (Next (TagOpenAttributeValueQuoted x) k) (pick (isValueExcluded x) Nok (Next TagOpenAttributeValueUnquoted k))
  unfolding valueBeforeOf
  before-at x h = not-spaced x _ _ h

  -- ---- behind an attribute or a tag name
  run-alike : (st st' : StateName) (x : ℕ) (xs : List ℕ) → stepOf ρ st k x ≡ stepOf ρ st' k x → runOf ρ st k (x ∷ xs) ≡ runOf ρ st' k (x ∷ xs)
  unfolding runOf
  run-alike st st' x xs e = rw e

  after-at : (x : ℕ) → isAttributeNameStart x ≡ false → valueQuotedAfterOf k x ≡ tagOpenBetweenOf k x
  unfolding valueQuotedAfterOf endOf
  after-at x start =
      split (isTagBreak x) (λ t. rw t)
      (λ t.
      let o = (or_parts (isWhitespace x) (eqb x (byte "/") || eqb x (byte ">")) t).1 in
      rw (t, between-at x (or_parts (isWhitespace x) (eqb x (byte "/") || eqb x (byte ">")) t).0, (or_parts (eqb x (byte "/")) (eqb x (byte ">")) o).0, start, (or_parts (eqb x (byte "/")) (eqb x (byte ">")) o).1))

  after-between : (x : ℕ) (xs : List ℕ) → isAttributeNameStart x ≡ false
      → runOf ρ TagOpenAttributeValueQuotedAfter k (x ∷ xs) ≡ runOf ρ TagOpenBetween k (past isWhitespace (x ∷ xs))
  after-between x xs start = run-alike TagOpenAttributeValueQuotedAfter TagOpenBetween x xs (after-at x start) ∙ between-span (x ∷ xs)

  end-is : (s : List ℕ) → runOf ρ End k s ≡ carrying k (tagEnd (byte "/" ∷ s))
  unfolding endOf runOf tagEnd
  end-is [] = refl
  end-is (x ∷ xs) = split (eqb x (byte ">")) (λ h. simp h) (λ h. simp h)

  slash-is : (s : List ℕ) → runOf ρ TagOpenBetween k (byte "/" ∷ s) ≡ carrying k (tagEnd (byte "/" ∷ s))
  unfolding tagOpenBetweenOf runOf
  slash-is s = end-is s

  -- ---- with what is known of shorter texts
  abbrev After : ℕ → Type 0
  After n = (s : List ℕ) → length s < n → runOf ρ TagOpenAttributeValueQuotedAfter k s ≡ carrying k (attributes g n s)

  module _ (n : ℕ) (ih : After n) where
    quoted-is : (m : ℕ) (s : List ℕ) → length s < n
        → runOf ρ (TagOpenAttributeValueQuoted m) k s ≡ carrying k (pastQuote (attributes g n) (past (λ b. not (eqb b m)) s))
    unfolding valueQuotedOf runOf
    quoted-is m s l =
        quoted-span m s
        ∙ past-cases (λ q. runOf ρ (TagOpenAttributeValueQuoted m) k q ≡ carrying k (pastQuote (attributes g n) q)) (λ b. not (eqb b m)) s refl
        (λ y ys e le. simp (not-false (eqb y m) e) (ih ys (omega arith)))

    unquoted-is : (s : List ℕ) → length s < n → runOf ρ TagOpenAttributeValueUnquoted k s ≡ carrying k (attributes g n (past (isValueByte g) s))
    unquoted-is s l = unquoted-span s ∙ ih (past (isValueByte g) s) (omega (arith, past-length (isValueByte g) s))

    value-is : (again : List ℕ → Left) (s : List ℕ) → length s < n
        → runOf ρ TagOpenAttributeValueBefore k s ≡ carrying k (value g (attributes g n) again (past isWhitespace s))
    unfolding runOf
    value-is again s l =
        before-span s
        ∙ past-cases (λ v. runOf ρ TagOpenAttributeValueBefore k v ≡ carrying k (value g (attributes g n) again v)) isWhitespace s refl
        (λ x xs sp le. split (isQuote x) (λ q. rw (before-at x sp, q) (quoted-is x xs (omega arith)))
        (λ q. split (isValueExcluded x) (λ a. let u = rw q at a in rw (before-at x sp, q, u))
        (λ a. let u = rw q at a in rw (before-at x sp, q, u) (unquoted-is xs (omega arith)))))

    -- the name ends at x, which begins no attribute
    name-after-is : (values : List ℕ → Left) (x : ℕ) (xs : List ℕ) → isAttributeNameStart x ≡ false → length (x ∷ xs) < n
        → ((s : List ℕ) → length s < length (x ∷ xs) → runOf ρ TagOpenAttributeValueBefore k s ≡ carrying k (values (past isWhitespace s)))
        → runOf ρ TagOpenAttributeNameAfter k (x ∷ xs) ≡ carrying k (specification (attributes g n) values (x ∷ xs))
    unfolding runOf
    name-after-is values x xs start l are =
        name-after-span (x ∷ xs)
        ∙ past-cases
        (λ t. runOf ρ TagOpenBetween k t ≡ carrying k (attributes g n (x ∷ xs))
        → runOf ρ TagOpenAttributeNameAfter k t ≡ carrying k (choose (begins (bytes "=") t) (λ _. values (past isWhitespace (drop 1 t))) (λ _. attributes g n (x ∷ xs))))
        isWhitespace (x ∷ xs) (λ e. e)
        (λ y ys sp le e. split (eqb y (byte "=")) (λ q. rw (name-after-at y sp, q) (are ys (omega arith))) (λ q. rw (name-after-at y sp, q) e))
        (sym (after-between x xs start) ∙ ih (x ∷ xs) l)

    -- the text ends with the name
    name-end : (values : List ℕ → Left) → 0 < n → runOf ρ TagOpenAttributeNameAfter k [] ≡ carrying k (specification (attributes g n) values [])
    unfolding runOf past
    name-end values l = ih [] l

    -- an attribute from the second byte of its name on, of which m bytes are left, so that it has at most m values
    name-values : (m : ℕ) (s : List ℕ) → length s ≤ m → length s < n
        → runOf ρ TagOpenAttributeName k s ≡ carrying k (specification (attributes g n) (values g (attributes g n) m) (past isAttributeNameByte s))
    unfolding values
    name-values zero [] z l = name-span [] ∙ nothing-left
      where
        nothing-left : runOf ρ TagOpenAttributeNameAfter k (past isAttributeNameByte []) ≡ carrying k (specification (attributes g n) (values g (attributes g n) zero) (past isAttributeNameByte []))
        nothing-left = past-cases (λ r. runOf ρ TagOpenAttributeNameAfter k r ≡ carrying k (specification (attributes g n) (values g (attributes g n) zero) r)) isAttributeNameByte [] (name-end (values g (attributes g n) zero) l) (λ x xs h le. absurd (omega arith))
    name-values zero (x ∷ xs) z l = absurd (omega arith)
    name-values (suc m) s z l =
        name-span s
        ∙ past-cases (λ r. runOf ρ TagOpenAttributeNameAfter k r ≡ carrying k (specification (attributes g n) (values g (attributes g n) (suc m)) r)) isAttributeNameByte s (name-end (values g (attributes g n) (suc m)) (omega arith))
        (λ x xs h le. name-after-is (values g (attributes g n) (suc m)) x xs (sym (starts-is x) ∙ name-start-no false x h) (omega arith) (λ t lt. value-is (values g (attributes g n) m) t (omega arith)))

    between-is : (s : List ℕ) → length s < suc n
        → runOf ρ TagOpenBetween k s
        ≡ carrying k (choose (startsName g (first (past isWhitespace s))) (λ _. attribute g (attributes g n) (drop 1 (past isWhitespace s))) (λ _. tagEnd (past isWhitespace s)))
    unfolding runOf endOf tagEnd
    between-is s l =
        between-span s
        ∙ past-cases (λ t. runOf ρ TagOpenBetween k t ≡ carrying k (choose (startsName g (first t)) (λ _. attribute g (attributes g n) (drop 1 t)) (λ _. tagEnd t))) isWhitespace s refl
        (λ x xs sp le. split (eqb x (byte "/")) (λ e. rw (eqb-true x (byte "/") e) (slash-is xs))
        (λ e. split (isAttributeNameStart x) (λ a. rw (between-at x sp, starts-is x, e, a) (name-values (length xs) xs (omega arith) (omega arith)))
        (λ a. split (eqb x (byte ">")) (λ j. rw (between-at x sp, starts-is x, e, a, j)) (λ j. rw (between-at x sp, starts-is x, e, a, j)))))

  -- ---- behind a tag name or an attribute
  at-break : (x : ℕ) → isTagBreak x ≡ true → valueQuotedAfterOf k x ≡ tagOpenBetweenOf k x
  unfolding valueQuotedAfterOf
  at-break x t = rw t

  after-nil : (n : ℕ) → runOf ρ TagOpenAttributeValueQuotedAfter k [] ≡ carrying k (attributes g (suc n) [])
  unfolding runOf attributes past tagEnd
  after-nil n = refl

  -- at whitespace, at `/` or `>`, and at any other byte
  attributes-spaced : (n x : ℕ) (xs : List ℕ) → isWhitespace x ≡ true
      → attributes g (suc n) (x ∷ xs) ≡ choose (startsName g (first (past isWhitespace (x ∷ xs)))) (λ _. attribute g (attributes g n) (drop 1 (past isWhitespace (x ∷ xs)))) (λ _. tagEnd (past isWhitespace (x ∷ xs)))
  unfolding attributes
  attributes-spaced n x xs sp = rw sp

  attributes-end : (n x : ℕ) (xs : List ℕ) → isWhitespace x ≡ false → attributes g (suc n) (x ∷ xs) ≡ tagEnd (x ∷ xs)
  unfolding attributes
  attributes-end n x xs sp = rw (past-none isWhitespace x xs sp, sp)

  no-break : (x : ℕ) (xs : List ℕ) → isTagBreak x ≡ false → runOf ρ TagOpenAttributeValueQuotedAfter k (x ∷ xs) ≡ carrying k (tagEnd (x ∷ xs))
  unfolding runOf valueQuotedAfterOf tagEnd
  no-break x xs t =
      let o = (or_parts (isWhitespace x) (eqb x (byte "/") || eqb x (byte ">")) t).1 in
      simp ((or_parts (isWhitespace x) (eqb x (byte "/") || eqb x (byte ">")) t).0, (or_parts (eqb x (byte "/")) (eqb x (byte ">")) o).0, (or_parts (eqb x (byte "/")) (eqb x (byte ">")) o).1)

  after-is : (n : ℕ) → After n
  after-is zero s l = absurd (omega arith)
  after-is (suc n) [] l = after-nil n
  after-is (suc n) (x ∷ xs) l =
      split (isTagBreak x)
      (λ t.
      let b = run-alike TagOpenAttributeValueQuotedAfter TagOpenBetween x xs (at-break x t) ∙ between-is n (after-is n) (x ∷ xs) l in
      split (isWhitespace x) (λ sp. b ∙ ap (carrying k) (sym (attributes-spaced n x xs sp)))
      (λ sp. rw (attributes-end n x xs sp) (rw (past-none isWhitespace x xs sp, break-start-no false x t) at b)))
      (λ t. rw (attributes-end n x xs (or_parts (isWhitespace x) (eqb x (byte "/") || eqb x (byte ">")) t).0) (no-break x xs t))

  pub open-tag-is : (n : ℕ) (s : List ℕ) → length s < n → runOf ρ TagOpen k s ≡ carrying k (attributes g n (past isTagNameByte s))
  open-tag-is n s l = tag-span s ∙ after-is n (past isTagNameByte s) (omega (arith, past-length isTagNameByte s))

  -- ---- closing tags
  close-name-span : (s : List ℕ) → runOf ρ TagClose k s ≡ runOf ρ TagCloseBetween k (past isTagNameByte s)
  unfolding tagCloseOf
  close-name-span s = span isTagNameByte TagClose TagCloseBetween (λ x h. simp h) (λ x h. simp h) s

  close-span : (s : List ℕ) → runOf ρ TagCloseBetween k s ≡ runOf ρ TagCloseBetween k (past isWhitespace s)
  unfolding tagCloseBetweenOf
  close-span s = span isWhitespace TagCloseBetween TagCloseBetween (λ x h. is-spaced x _ _ h) (λ x h. refl) s

  close-at : (x : ℕ) → isWhitespace x ≡ false → tagCloseBetweenOf k x ≡ endOf x
  unfolding tagCloseBetweenOf
  close-at x h = not-spaced x _ _ h

  pub close-tag-is : (s : List ℕ) → runOf ρ TagClose k s ≡ carrying k (exactly (bytes ">") (past isWhitespace (past isTagNameByte s)))
  unfolding runOf endOf
  close-tag-is s =
      close-name-span s
      ∙ close-span (past isTagNameByte s)
      ∙ past-cases (λ t. runOf ρ TagCloseBetween k t ≡ carrying k (exactly (bytes ">") t)) isWhitespace (past isTagNameByte s) refl
      (λ x xs sp le. split (eqb x (byte ">")) (λ h. rw (close-at x sp, h)) (λ h. rw (close-at x sp, h)))
