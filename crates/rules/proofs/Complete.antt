-- Open tags in two readings, with any property of what is left behind the tag, so that both scans can use it. A tag of a block that the standard takes is taken
-- without F4 too: the other changes only admit more. A tag whose values hold no `/`, that is taken where no name begins with a digit and taken where no further
-- value follows, is taken by the standard: where such a value ends at a `/`, the tag's end must follow, so that the standard's longer value ends at the same `>`.
use Rattle.std.proofs.Common.{◌≡◌, refl, sym, ap, Bool, true, false, ◌&&◌, not, List, [], ◌∷◌, ℕ, zero, suc, eqb, drop, length, eqb-true}
use Rattle.std.proofs.lemmas.Bool.{and_parts}
use Rattle.std.proofs.Math.Bool.{and-false}
use Rattle.lexical.specs.Text.{byte, bytes, first}
use Rattle.lexical.specs.Byte.{isDigit, isLetter, isWhitespace, isTagNameByte, isAttributeNameStart, isAttributeNameByte, isQuote, isValueExcluded, isNameStart, isValueEnd}
use Rattle.lexical.proofs.Cases.{split, clash}
use Rattle.rules.specs.Reading.{F2, F4, F5, crate, standard, without}
use Rattle.rules.specs.Search.{choose, begins, past, Left, left, nothing}
use Rattle.rules.specs.Tag.{Grammar, inlineTags, blockTags, tagEnd, pastQuote, specification, startsName, pastUnquoted, value, values, attributes, openTag}
use Rattle.rules.specs.Block.{fillsLine}
use Rattle.rules.specs.Partings.{isThere}
use Rattle.rules.proofs.Past.{past-cases}

-- a grammar by its switches: digits, no `/` in a value, `/` as its first byte all the same, further values
abbrev grammar : Bool → Bool → Bool → Bool → Grammar
grammar d s f m = record { digits = d; slashless = s; slashFirst = f; further = m }

-- the standard's: f, whether `/` may be a value's first byte where it may be none other; and of blocks that without F4
abbrev standardTags : Bool → Grammar
standardTags f = grammar false false f false

abbrev withoutF4 : Grammar
withoutF4 = blockTags (without F4)

-- with no `/` in a value: one without digits, one without further values
abbrev noDigits : Bool → Bool → Grammar
noDigits f m = grammar false true f m

abbrev noFurther : Bool → Bool → Grammar
noFurther f d = grammar d true f false

-- ---- the bytes of an unquoted value
-- one without `/`, and the standard's, which runs at least as far
abbrev inSlashless : ℕ → Bool
inSlashless b = not (isValueEnd true b)

abbrev inStandard : ℕ → Bool
inStandard b = not (isValueEnd false b)

reaches : (x : ℕ) → inSlashless x ≡ true → inStandard x ≡ true
reaches x h = split (eqb x (byte "/")) (λ e. rw (eqb-true x (byte "/") e)) (λ e. simp e (simp e at h))

-- and farther only where it meets `/`
same-stop : (x : ℕ) → eqb x (byte "/") ≡ false → inSlashless x ≡ false → inStandard x ≡ false
same-stop x e h = simp e (simp e at h)

twice : (s : List ℕ) → past inStandard s ≡ past inStandard (past inSlashless s)
unfolding past
twice [] = refl
twice (x ∷ xs) = split (inSlashless x) (λ h. simp (h, reaches x h) (twice xs)) (λ h. simp h)

-- ---- the first byte of a name: what begins one without digits begins one
start-grows : (d : Bool) (x : ℕ) → isNameStart false x ≡ true → isNameStart d x ≡ true
start-grows false x h = h
start-grows true x h =
    split (isAttributeNameStart x) (λ a. simp a) (λ a. split (isDigit x) (λ d. simp (a, d)) (λ d. simp (a, d) (simp (a, d) at h)))

-- ---- no attribute or end begins with `=`
no-sign : (g : Grammar) (n : ℕ) (s xs : List ℕ) → past isWhitespace s ≡ byte "=" ∷ xs → attributes g n s ≡ nothing
unfolding attributes tagEnd
no-sign g zero s xs e = refl
no-sign g (suc n) s xs e = simp (e, and-false)

-- a property that holds of what is left, and not where nothing is found
module _ (P : Left → Type 0) (never : P nothing → ⊥) where
  abbrev Yes : (List ℕ → Left) → List ℕ → Type 0
  Yes f s = P (f s)

  -- past a test that fails
  other : (p : Bool) (x y : Unit {0} → Left) → p ≡ false → P (choose p x y) → P (y tt)
  other true x y e h = clash true refl e
  other false x y e h = h

  -- the end of a tag begins no attribute
  end-first : (g : Grammar) (s : List ℕ) → Yes tagEnd s → startsName g (first s) ≡ false
  unfolding tagEnd
  end-first g [] h = absurd (never h)
  end-first g (x ∷ xs) h =
      split (eqb x (byte ">")) (λ e. rw (eqb-true x (byte ">") e))
      (λ e. split (eqb x (byte "/")) (λ k. rw (eqb-true x (byte "/") k)) (λ k. absurd (never (simp (e, k) at h))))

  sign : (g : Grammar) (n : ℕ) (s : List ℕ) → Yes (attributes g n) s → begins (bytes "=") (past isWhitespace s) ≡ false
  sign g n s h = sign-at (past isWhitespace s) refl
    where
      sign-at : (t : List ℕ) → past isWhitespace s ≡ t → begins (bytes "=") t ≡ false
      sign-at [] e = refl
      sign-at (x ∷ xs) e =
          split (eqb x (byte "=")) (λ q. absurd (never (rw (no-sign g n s xs (rw (eqb-true x (byte "=") q) at e)) at h))) (λ q. simp q)

  -- ---- of blocks: the standard takes no tag that is not taken without F4
  module _ (less more : List ℕ → Left) (grows : (s : List ℕ) → Yes less s → Yes more s)
      (signless : (s : List ℕ) → Yes less s → begins (bytes "=") (past isWhitespace s) ≡ false) where
    quote-grows : (s : List ℕ) → Yes (pastQuote less) s → Yes (pastQuote more) s
    quote-grows [] h = h
    quote-grows (x ∷ xs) h = grows xs h

    unquoted-grows : (v : List ℕ → Left) (t : List ℕ) → Yes less t → Yes (specification more v) t
    unquoted-grows v t h = simp (signless t h) (grows t h)

    value-grows : (u v : List ℕ → Left) (s : List ℕ) → Yes (value (standardTags false) less u) s → Yes (value withoutF4 more v) s
    value-grows u v [] h = h
    value-grows u v (x ∷ xs) h =
        split (isQuote x) (λ q. simp q (quote-grows (past (λ b. not (eqb b x)) xs) (simp q at h)))
        (λ q. split (isValueExcluded x) (λ a. let u = simp q at a in simp (q, u) (simp (q, u) at h))
        (λ a. let u = simp q at a in simp (q, u) (unquoted-grows v _ (simp (q, u) at h))))

    values-grow : (m : ℕ) (s : List ℕ) → Yes (values (standardTags false) less m) s → Yes (values withoutF4 more m) s
    unfolding values
    values-grow zero s h = h
    values-grow (suc m) s h = value-grows (values (standardTags false) less m) (values withoutF4 more m) s h

    specification-grows : (u v : List ℕ → Left) (s : List ℕ) → ((t : List ℕ) → Yes u t → Yes v t) → Yes (specification less u) s → Yes (specification more v) s
    specification-grows u v s f h =
        split (begins (bytes "=") (past isWhitespace s))
        (λ e. simp e (f (past isWhitespace (drop 1 (past isWhitespace s))) (simp e at h))) (λ e. simp e (grows s (simp e at h)))

  attributes-grow : (n : ℕ) (s : List ℕ) → Yes (attributes (standardTags false) n) s → Yes (attributes withoutF4 n) s
  unfolding attributes
  attributes-grow zero s h = h
  attributes-grow (suc n) s h =
      split (isWhitespace (first s) && isNameStart false (first (past isWhitespace s)))
      (λ e.
      let a = (and_parts (isWhitespace (first s)) (isNameStart false (first (past isWhitespace s))) e).0 in
      let b = start-grows true (first (past isWhitespace s)) (and_parts (isWhitespace (first s)) (isNameStart false (first (past isWhitespace s))) e).1 in
      let t = drop 1 (past isWhitespace s) in
      let less = attributes (standardTags false) n in
      let more = attributes withoutF4 n in
      simp (a, b) (specification-grows less more (attributes-grow n) (sign (standardTags false) n) (values (standardTags false) less (length t)) (values withoutF4 more (length t)) (past isAttributeNameByte t) (values-grow less more (attributes-grow n) (sign (standardTags false) n) (length t)) (simp e at h)))
      (λ e. let k = simp e at h in simp (end-first withoutF4 (past isWhitespace s) k, and-false) k)

  tag-grows : (s : List ℕ) → Yes (openTag (standardTags false)) s → Yes (openTag withoutF4) s
  unfolding openTag
  tag-grows s h =
      split (begins (bytes "<") s && isLetter (first (drop 1 s)))
      (λ e. simp e (attributes-grow (length s) (past isTagNameByte (drop 2 s)) (simp e at h))) (λ e. simp e (simp e at h))

  -- ---- a tag that is taken without digits and without further values is taken by the standard; f: `/` may be a value's first byte
  -- `/` behind an attribute is followed by `>`, so that a value which runs past it ends the same
  slash : (f d : Bool) (n : ℕ) (xs : List ℕ) → Yes (attributes (noFurther f d) n) (byte "/" ∷ xs) → Yes (attributes (standardTags f) n) (past inStandard xs)
  unfolding attributes tagEnd past
  slash f d zero xs h = h
  slash f d (suc n) [] h = h
  slash f d (suc n) (y ∷ ys) h =
      split (eqb y (byte ">")) (λ e. rw (eqb-true y (byte ">") e) (rw (eqb-true y (byte ">") e) at h))
      (λ e. absurd (never (simp e at h)))

  module _ (b c more : List ℕ → Left) (falls : (s : List ℕ) → Yes b s → Yes c s → Yes more s)
      (signless : (s : List ℕ) → Yes c s → begins (bytes "=") (past isWhitespace s) ≡ false)
      (slashed : (xs : List ℕ) → Yes c (byte "/" ∷ xs) → Yes more (past inStandard xs)) where
    quote-falls : (s : List ℕ) → Yes (pastQuote b) s → Yes (pastQuote c) s → Yes (pastQuote more) s
    quote-falls [] g h = h
    quote-falls (x ∷ xs) g h = falls xs g h

    end-falls : Yes b [] → Yes c [] → Yes more (past inStandard [])
    unfolding past
    end-falls g h = falls [] g h

    at-slash : (xs : List ℕ) → Yes c (byte "/" ∷ xs) → Yes more (past inStandard (byte "/" ∷ xs))
    unfolding past
    at-slash xs h = slashed xs h

    at-stop : (x : ℕ) (xs : List ℕ) → inStandard x ≡ false → Yes more (x ∷ xs) → Yes more (past inStandard (x ∷ xs))
    unfolding past
    at-stop x xs e h = simp e h

    -- at the end of an unquoted value
    stop-falls : (s : List ℕ) → Yes b (past inSlashless s) → Yes c (past inSlashless s) → Yes more (past inStandard s)
    stop-falls s =
        rw twice
        (past-cases (λ t. Yes b t → Yes c t → Yes more (past inStandard t)) inSlashless s end-falls
        (λ x xs e l g h. split (eqb x (byte "/")) (λ k. rw (eqb-true x (byte "/") k) (at-slash xs (rw (eqb-true x (byte "/") k) at h)))
        (λ k. at-stop x xs (same-stop x k e) (falls (x ∷ xs) g h))))

    -- where a further value may follow, none does
    no-further : (m : Bool) (u : List ℕ → Left) (t : List ℕ) → P (choose m (λ _. specification b u t) (λ _. b t)) → Yes c t → Yes b t
    no-further true u t g h = simp (signless t h) at g
    no-further false u t g h = g

    unquoted-falls : (f m d : Bool) (u : List ℕ → Left) (x : ℕ) (xs : List ℕ)
        → P (choose m (λ _. specification b u (pastUnquoted (noDigits f m) x xs)) (λ _. b (pastUnquoted (noDigits f m) x xs))) → Yes c (pastUnquoted (noFurther f d) x xs)
        → Yes more (pastUnquoted (standardTags f) x xs)
    unquoted-falls true m d u x xs g h = stop-falls xs (no-further m u (past inSlashless xs) g h) h
    unquoted-falls false m d u x xs g h = stop-falls (x ∷ xs) (no-further m u (past inSlashless (x ∷ xs)) g h) h

    module _ (f m d : Bool) where
      value-falls : (u v w : List ℕ → Left) (s : List ℕ) → Yes (value (noDigits f m) b u) s → Yes (value (noFurther f d) c v) s → Yes (value (standardTags f) more w) s
      value-falls u v w [] g h = h
      value-falls u v w (x ∷ xs) g h =
          split (isQuote x) (λ q. simp q (quote-falls (past (λ b. not (eqb b x)) xs) (simp q at g) (simp q at h)))
          (λ q. split (isValueExcluded x) (λ a. let k = simp q at a in simp (q, k) (simp (q, k) at h))
          (λ a.
          let k = simp q at a in
          simp (q, k) (unquoted-falls f m d u x xs (other (isValueExcluded x) _ _ a (other (isQuote x) _ _ q g)) (other (isValueExcluded x) _ _ a (other (isQuote x) _ _ q h)))))

      values-fall : (n : ℕ) (s : List ℕ) → Yes (values (noDigits f m) b n) s → Yes (values (noFurther f d) c n) s → Yes (values (standardTags f) more n) s
      unfolding values
      values-fall zero s g h = h
      values-fall (suc n) s g h = value-falls (values (noDigits f m) b n) (values (noFurther f d) c n) (values (standardTags f) more n) s g h

    specification-falls : (u v w : List ℕ → Left) (s : List ℕ) → ((t : List ℕ) → Yes u t → Yes v t → Yes w t) → Yes (specification b u) s → Yes (specification c v) s
        → Yes (specification more w) s
    specification-falls u v w s f g h =
        split (begins (bytes "=") (past isWhitespace s))
        (λ e. simp e (f (past isWhitespace (drop 1 (past isWhitespace s))) (simp e at g) (simp e at h))) (λ e. simp e (falls s (simp e at g) (simp e at h)))

  module _ (f m d : Bool) where
    attributes-fall : (n : ℕ) (s : List ℕ) → Yes (attributes (noDigits f m) n) s → Yes (attributes (noFurther f d) n) s → Yes (attributes (standardTags f) n) s
    unfolding attributes
    attributes-fall zero s g h = h
    attributes-fall (suc n) s g h =
        split (isWhitespace (first s) && isNameStart false (first (past isWhitespace s)))
        (λ e.
        let a = (and_parts (isWhitespace (first s)) (isNameStart false (first (past isWhitespace s))) e).0 in
        let k = start-grows d (first (past isWhitespace s)) (and_parts (isWhitespace (first s)) (isNameStart false (first (past isWhitespace s))) e).1 in
        let t = drop 1 (past isWhitespace s) in
        let b = attributes (noDigits f m) n in
        let c = attributes (noFurther f d) n in
        let more = attributes (standardTags f) n in
        simp e (specification-falls b c more (attributes-fall n) (sign (noFurther f d) n) (slash f d n) (values (noDigits f m) b (length t)) (values (noFurther f d) c (length t)) (values (standardTags f) more (length t)) (past isAttributeNameByte t) (values-fall b c more (attributes-fall n) (sign (noFurther f d) n) (slash f d n) f m d (length t)) (simp e at g) (simp (a, k) at h)))
        (λ e. simp e (simp e at g))

    tag-falls : (s : List ℕ) → Yes (openTag (noDigits f m)) s → Yes (openTag (noFurther f d)) s → Yes (openTag (standardTags f)) s
    unfolding openTag
    tag-falls s g h =
        split (begins (bytes "<") s && isLetter (first (drop 1 s)))
        (λ e. simp e (attributes-fall (length s) (past isTagNameByte (drop 2 s)) (simp e at g) (simp e at h))) (λ e. simp e (simp e at h))

-- ---- blocks: the tag fills its line
abbrev Fills : Left → Type 0
Fills l = fillsLine l ≡ true

unfilled : Fills nothing → ⊥
unfilled h = clash true refl (sym h)

pub open-grows : (s : List ℕ) → Fills (openTag (blockTags standard) s) → Fills (openTag (blockTags (without F4)) s)
open-grows = tag-grows Fills unfilled

pub open-falls : (s : List ℕ) → Fills (openTag (blockTags (without F2)) s) → Fills (openTag (blockTags (without F5)) s) → Fills (openTag (blockTags standard) s)
open-falls = tag-falls Fills unfilled false true true

-- ---- inline: the same is left behind the tag
module _ (t : List ℕ) where
  abbrev Leaves : Left → Type 0
  Leaves l = l ≡ left t

  pub left-nothing : nothing ≡ left t → ⊥
  left-nothing h = clash true refl (sym (ap isThere h))

  pub open-on : (s : List ℕ) → openTag (inlineTags crate) s ≡ left t → openTag (inlineTags standard) s ≡ left t
  open-on s h = tag-falls Leaves left-nothing true false false s h h
