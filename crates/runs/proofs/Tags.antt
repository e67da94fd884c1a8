-- Open and closing tags of two texts that are alike but for a private body: in every grammar, the one has a tag where the other has one, and what is left of
-- them corresponds. A `<` ends every part of a tag but a quoted value, and a quoted value that meets the opening ends behind the body or nowhere.
-- How many attributes and values are allowed differs with the length of the text, so the two are counted apart.
use Rattle.std.proofs.Common.{◌≡◌, refl, sym, ◌∙◌, ap, Bool, true, false, ◌&&◌, not, List, [], ◌∷◌, ℕ, zero, suc, ◌<◌, ◌≤◌, arith, eqb, length, drop, length-drop}
use Rattle.std.proofs.Math.Bool.{and-false}
use Rattle.std.proofs.lemmas.Bool.{and_parts}
use Rattle.lexical.specs.Text.{byte, bytes, first}
use Rattle.lexical.specs.Byte.{isLetter, isWhitespace, isTagNameByte, isAttributeNameByte, isQuote, isValueExcluded}
use Rattle.lexical.specs.Name.{all}
use Rattle.lexical.proofs.Cases.{split, clash}
use Rattle.rules.specs.Search.{choose, begins, past, Left, nothing, orElse, exactly}
use Rattle.rules.specs.Tag.{Grammar, tagEnd, pastQuote, specification, startsName, isValueByte, pastUnquoted, value, values, attribute, attributes, openTag, closingTag}
use Rattle.rules.proofs.Past.{past-length}
use Rattle.runs.proofs.Alike.{Alike, Pair, ahead, behind, Lefts, lefts, nothings, View, at-end, at-opening, at-byte, angleless, view, first-same, past-pair, begins-same, drop-pair}

-- fewer bytes behind one that is there
pub drop-less : (c : ℕ) (p s : List ℕ) → begins (c ∷ p) s ≡ true → length (drop 1 s) < length s
drop-less c p [] h = clash true refl (sym h)
drop-less c p (x ∷ s) h = omega arith

-- an unquoted value leaves no more than there was
pub unquoted-length : (g : Grammar) (x : ℕ) (s : List ℕ) → length (pastUnquoted g x s) ≤ length (x ∷ s)
unquoted-length g x s = split g.slashFirst (λ h. rw h (omega (arith, past-length (isValueByte g) s))) (λ h. rw h (past-length (isValueByte g) (x ∷ s)))

-- a byte of a class without `<` is there
pub class-pair : {w₁ w₂ q : List ℕ} (f : ℕ → Bool) → f (byte "<") ≡ false → {s t : List ℕ} → f (first s) ≡ true → Pair w₁ w₂ q s t → Pair w₁ w₂ q (drop 1 s) (drop 1 t)
class-pair {w₁} {w₂} {q} f e h r = by-view h (view r)
  where
    by-view : {s t : List ℕ} → f (first s) ≡ true → View w₁ w₂ q s t → Pair w₁ w₂ q (drop 1 s) (drop 1 t)
    by-view h at-end = behind [] (omega arith)
    by-view h at-opening = clash (f (byte "<")) h e
    by-view h (at-byte x k) = k

module _ {w₁ w₂ q : List ℕ} where
  pub choose-lefts : {x₁ y₁ x₂ y₂ : Left} (b c : Bool) → b ≡ c → (b ≡ true → Lefts w₁ w₂ q x₁ x₂) → (b ≡ false → Lefts w₁ w₂ q y₁ y₂)
      → Lefts w₁ w₂ q (choose b (λ _. x₁) (λ _. y₁)) (choose c (λ _. x₂) (λ _. y₂))
  choose-lefts true true e f g = f refl
  choose-lefts false false e f g = g refl
  choose-lefts true false e f g = clash true refl e
  choose-lefts false true e f g = clash true refl (sym e)

  pub or-lefts : {a b x y : Left} → Lefts w₁ w₂ q a b → Lefts w₁ w₂ q x y → Lefts w₁ w₂ q (orElse a (λ _. x)) (orElse b (λ _. y))
  or-lefts (lefts r) h = lefts r
  or-lefts nothings h = h

  pub exactly-lefts : (p : List ℕ) → angleless p ≡ true → {s t : List ℕ} → Pair w₁ w₂ q s t → Lefts w₁ w₂ q (exactly p s) (exactly p t)
  exactly-lefts p e {s} {t} r = choose-lefts (begins p s) (begins p t) (begins-same p e r) (λ h. lefts (drop-pair p e h r)) (λ h. nothings)

  end-lefts : {s t : List ℕ} → Pair w₁ w₂ q s t → Lefts w₁ w₂ q (tagEnd s) (tagEnd t)
  unfolding tagEnd all
  end-lefts r = or-lefts (exactly-lefts (bytes ">") refl r) (exactly-lefts (bytes "/>") refl r)

module _ {w₁ w₂ q : List ℕ} (alike : Alike w₁ w₂ q) (g : Grammar) where
  -- with what is known of fewer attributes
  module _ (n₁ n₂ : ℕ) (more₁ more₂ : List ℕ → Left)
      (ih : (s t : List ℕ) → length s < n₁ → length t < n₂ → Pair w₁ w₂ q s t → Lefts w₁ w₂ q (more₁ s) (more₂ t)) where
    behind-quote : (s : List ℕ) → length s ≤ n₁ → length s ≤ n₂ → length s ≤ length q → Lefts w₁ w₂ q (pastQuote more₁ s) (pastQuote more₂ s)
    behind-quote [] a b l = nothings
    behind-quote (x ∷ s) a b l = ih _ _ (omega arith) (omega arith) (behind s (omega arith))

    quote-lefts : (m : ℕ) → isQuote m ≡ true → {s t : List ℕ} → length s ≤ n₁ → length t ≤ n₂ → Pair w₁ w₂ q s t
        → Lefts w₁ w₂ q (pastQuote more₁ (past (λ b. not (eqb b m)) s)) (pastQuote more₂ (past (λ b. not (eqb b m)) t))
    unfolding past
    quote-lefts m e a b (ahead []) =
        let f : ℕ → Bool = λ x. not (eqb x m) in
        let k = past-length f (byte "<" ∷ w₁) in
        let l = past-length f (byte "<" ∷ w₂) in
        let k' : length (past f q) ≤ length (byte "<" ∷ w₁) = rw (alike.quoted₁ m e) at k in
        let l' : length (past f q) ≤ length (byte "<" ∷ w₂) = rw (alike.quoted₂ m e) at l in
        rw (alike.quoted₁ m e, alike.quoted₂ m e) (behind-quote (past f q) (omega arith) (omega arith) (past-length f q))
    quote-lefts m e a b (ahead (x ∷ u)) =
        split (eqb x m) (λ h. rw h (ih _ _ (omega arith) (omega arith) (ahead u))) (λ h. rw h (quote-lefts m e (omega arith) (omega arith) (ahead u)))
    quote-lefts m e a b (behind s l) =
        let k = past-length (λ x. not (eqb x m)) s in
        behind-quote (past (λ x. not (eqb x m)) s) (omega arith) (omega arith) (omega arith)

    specification-lefts : (v₁ v₂ : List ℕ → Left) {s t : List ℕ} → length s < n₁ → length t < n₂ → Pair w₁ w₂ q s t
        → ((s' t' : List ℕ) → length s' < length s → length t' < length t → Pair w₁ w₂ q s' t' → Lefts w₁ w₂ q (v₁ s') (v₂ t'))
        → Lefts w₁ w₂ q (specification more₁ v₁ s) (specification more₂ v₂ t)
    unfolding all
    specification-lefts v₁ v₂ {s} {t} a b r f =
        let k = past-pair isWhitespace refl r in
        choose-lefts (begins (bytes "=") (past isWhitespace s)) (begins (bytes "=") (past isWhitespace t)) (begins-same (bytes "=") refl k)
        (λ h.
        let d₁ = drop-less (byte "=") [] (past isWhitespace s) h in
        let d₂ = drop-less (byte "=") [] (past isWhitespace t) (sym (begins-same (bytes "=") refl k) ∙ h) in
        f _ _ (omega (arith, past-length isWhitespace s, past-length isWhitespace (drop 1 (past isWhitespace s)))) (omega (arith, past-length isWhitespace t, past-length isWhitespace (drop 1 (past isWhitespace t)))) (past-pair isWhitespace refl (drop-pair (bytes "=") refl h k)))
        (λ h. ih _ _ a b r)

    unquoted-pair : (x : ℕ) {s t : List ℕ} → Pair w₁ w₂ q (x ∷ s) (x ∷ t) → Pair w₁ w₂ q s t → Pair w₁ w₂ q (pastUnquoted g x s) (pastUnquoted g x t)
    unquoted-pair x r k = split g.slashFirst (λ h. rw h (past-pair (isValueByte g) refl k)) (λ h. rw h (past-pair (isValueByte g) refl r))

    value-lefts : (v₁ v₂ : List ℕ → Left) {s t : List ℕ} → length s < n₁ → length t < n₂ → Pair w₁ w₂ q s t
        → ((s' t' : List ℕ) → length s' < length s → length t' < length t → Pair w₁ w₂ q s' t' → Lefts w₁ w₂ q (v₁ s') (v₂ t'))
        → Lefts w₁ w₂ q (value g more₁ v₁ s) (value g more₂ v₂ t)
    value-lefts v₁ v₂ a b r f = by-view r (view r) a b f
      where
        by-view : {s t : List ℕ} → Pair w₁ w₂ q s t → View w₁ w₂ q s t → length s < n₁ → length t < n₂
            → ((s' t' : List ℕ) → length s' < length s → length t' < length t → Pair w₁ w₂ q s' t' → Lefts w₁ w₂ q (v₁ s') (v₂ t'))
            → Lefts w₁ w₂ q (value g more₁ v₁ s) (value g more₂ v₂ t)
        by-view r at-end a b f = nothings
        by-view r at-opening a b f = nothings
        by-view r (at-byte x {s} {t} k) a b f =
            choose-lefts (isQuote x) (isQuote x) refl (λ h. quote-lefts x h (omega arith) (omega arith) k)
            (λ h. choose-lefts (isValueExcluded x) (isValueExcluded x) refl (λ e. nothings)
            (λ e.
            let l₁ = unquoted-length g x s in
            let l₂ = unquoted-length g x t in
            choose-lefts g.further g.further refl
            (λ j. specification-lefts v₁ v₂ (omega arith) (omega arith) (unquoted-pair x r k) (λ s' t' c d. f s' t' (omega arith) (omega arith)))
            (λ j. ih _ _ (omega arith) (omega arith) (unquoted-pair x r k))))

    values-lefts : (m₁ m₂ : ℕ) {s t : List ℕ} → length s < m₁ → length t < m₂ → length s < n₁ → length t < n₂ → Pair w₁ w₂ q s t
        → Lefts w₁ w₂ q (values g more₁ m₁ s) (values g more₂ m₂ t)
    unfolding values
    values-lefts zero m₂ a b c d r = absurd (omega arith)
    values-lefts (suc m₁) zero a b c d r = absurd (omega arith)
    values-lefts (suc m₁) (suc m₂) a b c d r =
        value-lefts (values g more₁ m₁) (values g more₂ m₂) c d r (λ s' t' e f k. values-lefts m₁ m₂ (omega arith) (omega arith) (omega arith) (omega arith) k)

    attribute-lefts : {s t : List ℕ} → length s < n₁ → length t < n₂ → Pair w₁ w₂ q s t → Lefts w₁ w₂ q (attribute g more₁ s) (attribute g more₂ t)
    attribute-lefts {s} {t} a b r =
        let l₁ = past-length isAttributeNameByte s in
        let l₂ = past-length isAttributeNameByte t in
        specification-lefts (values g more₁ (length s)) (values g more₂ (length t)) (omega arith) (omega arith) (past-pair isAttributeNameByte refl r)
        (λ s' t' c d k. values-lefts (length s) (length t) (omega arith) (omega arith) (omega arith) (omega arith) k)

  -- whitespace in front is passed
  space-less : (s : List ℕ) → isWhitespace (first s) ≡ true → length (past isWhitespace s) < length s
  unfolding past
  space-less [] h = clash true refl (sym h)
  space-less (x ∷ s) h = rw h (omega (arith, past-length isWhitespace s))

  attributes-lefts : (n₁ n₂ : ℕ) {s t : List ℕ} → length s < n₁ → length t < n₂ → Pair w₁ w₂ q s t → Lefts w₁ w₂ q (attributes g n₁ s) (attributes g n₂ t)
  unfolding attributes
  attributes-lefts zero n₂ a b r = absurd (omega arith)
  attributes-lefts (suc n₁) zero a b r = absurd (omega arith)
  attributes-lefts (suc n₁) (suc n₂) {s} {t} a b r =
      let k = past-pair isWhitespace refl r in
      let e : (isWhitespace (first s) && startsName g (first (past isWhitespace s))) ≡ (isWhitespace (first t) && startsName g (first (past isWhitespace t))) =
      ap (λ (y : ℕ). isWhitespace y && startsName g (first (past isWhitespace s))) (first-same r) ∙ ap (λ (y : ℕ). isWhitespace (first t) && startsName g y) (first-same k) in
      choose-lefts (isWhitespace (first s) && startsName g (first (past isWhitespace s))) (isWhitespace (first t) && startsName g (first (past isWhitespace t))) e
      (λ h.
      let l₁ = space-less s (and_parts (isWhitespace (first s)) (startsName g (first (past isWhitespace s))) h).0 in
      let l₂ = space-less t (and_parts (isWhitespace (first t)) (startsName g (first (past isWhitespace t))) (sym e ∙ h)).0 in
      attribute-lefts n₁ n₂ (attributes g n₁) (attributes g n₂) (λ s' t' c d k'. attributes-lefts n₁ n₂ c d k') (omega (arith, length-drop 1 (past isWhitespace s))) (omega (arith, length-drop 1 (past isWhitespace t))) (class-pair (startsName g) refl (and_parts (isWhitespace (first s)) (startsName g (first (past isWhitespace s))) h).1 k))
      (λ h. end-lefts k)

-- ---- tags from a byte before the opening on
pub open-lefts : {w₁ w₂ q : List ℕ} → Alike w₁ w₂ q → (g : Grammar) (x : ℕ) {s t : List ℕ} → Pair w₁ w₂ q s t → Lefts w₁ w₂ q (openTag g (x ∷ s)) (openTag g (x ∷ t))
unfolding openTag
open-lefts alike g x {s} {t} r =
    let a = (eqb x (byte "<") && true) && isLetter (first s) in
    let b = (eqb x (byte "<") && true) && isLetter (first t) in
    let e : a ≡ b = ap (λ (y : ℕ). (eqb x (byte "<") && true) && isLetter y) (first-same r) in
    choose-lefts a b e
    (λ h.
    attributes-lefts alike g (length (x ∷ s)) (length (x ∷ t)) (omega (arith, past-length isTagNameByte (drop 1 s), length-drop 1 s)) (omega (arith, past-length isTagNameByte (drop 1 t), length-drop 1 t)) (past-pair isTagNameByte refl (class-pair isLetter refl (and_parts (eqb x (byte "<") && true) (isLetter (first s)) h).1 r)))
    (λ h. nothings)

-- `<`, a mark and a letter, and what is read behind the letter
abbrev marked : ℕ → (List ℕ → Left) → List ℕ → Left
marked mark f s = choose (begins (byte "<" ∷ mark ∷ []) s && isLetter (first (drop 2 s))) (λ _. f (drop 3 s)) (λ _. nothing)

pub marked-lefts : {w₁ w₂ q : List ℕ} (x mark : ℕ) → eqb (byte "<") mark ≡ false → (f : List ℕ → Left)
    → ((s t : List ℕ) → Pair w₁ w₂ q s t → Lefts w₁ w₂ q (f s) (f t)) → {s t : List ℕ} → Pair w₁ w₂ q s t → Lefts w₁ w₂ q (marked mark f (x ∷ s)) (marked mark f (x ∷ t))
marked-lefts {w₁} {w₂} {q} x mark e f l r = by-view (view r)
  where
    by-view : {s t : List ℕ} → View w₁ w₂ q s t → Lefts w₁ w₂ q (marked mark f (x ∷ s)) (marked mark f (x ∷ t))
    by-view at-end = rw (and-false (eqb x (byte "<"))) nothings
    by-view at-opening = rw (e, and-false (eqb x (byte "<"))) nothings
    by-view (at-byte y {s} {t} k) =
        let marks : Bool = eqb x (byte "<") && (eqb y mark && true) in
        choose-lefts (marks && isLetter (first s)) (marks && isLetter (first t)) (ap (λ (z : ℕ). marks && isLetter z) (first-same k))
        (λ h. l _ _ (class-pair isLetter refl (and_parts marks (isLetter (first s)) h).1 k)) (λ h. nothings)

pub close-lefts : {w₁ w₂ q : List ℕ} (x : ℕ) {s t : List ℕ} → Pair w₁ w₂ q s t → Lefts w₁ w₂ q (closingTag (x ∷ s)) (closingTag (x ∷ t))
unfolding closingTag all
close-lefts x r =
    marked-lefts x (byte "/") refl (λ s. exactly (bytes ">") (past isWhitespace (past isTagNameByte s)))
    (λ s t k. exactly-lefts (bytes ">") refl (past-pair isWhitespace refl (past-pair isTagNameByte refl k))) r
