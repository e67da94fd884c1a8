-- The kind of a line by the code's order of tests is the kind of the rules. Of a name that does not begin with a letter no condition holds; behind a name that
-- does, the start conditions are asked in the same order, and a block name before `/` that is not `/>` is no complete tag either.
use Rattle.std.proofs.Common.{◌≡◌, refl, sym, ◌∙◌, ap, Bool, true, false, ◌&&◌, ◌||◌, not, List, [], ◌∷◌, ◌++◌, ℕ, suc, ◌<◌, ◌≤◌, arith, eqb, length, drop, length-drop, eqb-true}
use Rattle.std.proofs.lemmas.Bool.{and_parts, or_parts}
use Rattle.std.proofs.Math.Bool.{and-false, and-true, or-false, and_comm}
use Rattle.lexical.specs.Text.{byte, bytes, pick, first, run}
use Rattle.lexical.specs.Byte.{isLetter, isTagNameByte, isSpaceOrTab, isLineEndingByte, isWhitespace, isNameBreak}
use Rattle.lexical.specs.Name.{isBlockName, isRawName}
use Rattle.lexical.proofs.Cases.{split, clash, excluded, letter-byte}
use Rattle.lexical.proofs.Members.{raw-first, block-first}
use Rattle.rules.specs.Search.{choose, begins, past, exactly}
use Rattle.rules.specs.Tag.{blockTags, attributes, openTag, closingTag}
use Rattle.rules.specs.Block.{nameOf, afterName, nameEnds, startsRaw, basicName, startsBasic, fillsLine, startsComplete, mayStart, kindAt}
use Rattle.rules.specs.declared.Rules.{Rules}
use Rattle.rules.proofs.NameLaws.{no-name}
use Rattle.rules.proofs.Past.{past-run, past-none}
use Rattle.flow.specs.CompleteMachine.{endOf, nameBeforeOf, valueQuotedAfterOf, runOf}
use Rattle.flow.proofs.CompleteMeans.{open-is}
use Rattle.flow.specs.OpenMachine.{selfClosingOf, completesOf, completeOf, tagNameOf, declarationOpenOf, tagCloseStartOf, openOf}

-- ---- names that begin with no letter
no-raw-name : (s : List ℕ) → isLetter (first s) ≡ false → isRawName (nameOf s) ≡ false
no-raw-name = no-name isRawName raw-first

no-block-name : (s : List ℕ) → isLetter (first s) ≡ false → isBlockName (nameOf s) ≡ false
no-block-name = no-name isBlockName block-first

-- ---- behind `<` and a byte that is no letter
module _ (ρ : Rules) (f : ℕ) where
  -- no condition but 2 to 5 holds
  abbrev early : List ℕ → ℕ
  early s =
      choose (begins (bytes "<!--") s) (λ _. 2)
      (λ _. choose (begins (bytes "<?") s) (λ _. 3)
      (λ _. choose (begins (bytes "<!") s && isLetter (first (drop 2 s))) (λ _. 4) (λ _. choose (begins (bytes "<![CDATA[") s) (λ _. 5) (λ _. 0))))

  no-raw-start : (s : List ℕ) → isLetter (first s) ≡ false → startsRaw (byte "<" ∷ s) ≡ false
  unfolding startsRaw
  no-raw-start s e = rw (no-raw-name s e)

  no-basic-start : (s : List ℕ) → isLetter (first s) ≡ false → begins (bytes "/") s ≡ false → startsBasic (byte "<" ∷ s) ≡ false
  unfolding startsBasic
  no-basic-start s e n = rw (no-block-name s e, n)

  no-complete-start : (s : List ℕ) → isLetter (first s) ≡ false → begins (bytes "/") s ≡ false → startsComplete ρ (byte "<" ∷ s) ≡ false
  unfolding startsComplete openTag closingTag
  no-complete-start s e n = rw (e, n, and-false (ρ.f3 || not (isRawName (nameOf s))))

  no-letter : (s : List ℕ) → isLetter (first s) ≡ false → begins (bytes "/") s ≡ false → kindAt ρ f (byte "<" ∷ s) ≡ early (byte "<" ∷ s)
  unfolding kindAt
  no-letter s e n =
      rw (no-raw-start s e, no-basic-start s e n, no-complete-start s e n)

  pub declaration-kind : (s : List ℕ) → kindAt ρ f (bytes "<!" ++ s) ≡ declarationOpenOf s
  unfolding declarationOpenOf
  declaration-kind s = no-letter (byte "!" ∷ s) refl refl

  pub instruction-kind : (s : List ℕ) → kindAt ρ f (bytes "<?" ++ s) ≡ 3
  instruction-kind s = no-letter (byte "?" ∷ s) refl refl

  pub nothing-kind : kindAt ρ f (bytes "<") ≡ 0
  nothing-kind = no-letter [] refl refl

  pub other-kind : (x : ℕ) (s : List ℕ) → eqb x (byte "!") ≡ false → eqb x (byte "/") ≡ false → eqb x (byte "?") ≡ false → isLetter x ≡ false → kindAt ρ f (byte "<" ∷ x ∷ s) ≡ 0
  other-kind x s a b c e = no-letter (x ∷ s) e (rw b) ∙ rw (a, c)

-- ---- the two orders of tests agree. E: the name ends here; S: `/` follows; G: `/>` does; R, B: a raw and a block name; C: the tag is complete; M: kind 7 may start
module _ (E S G R B C M : Bool) (no_both : S ≡ true → E ≡ false) (shut : (E || S) ≡ false → C ≡ false) (need : S ≡ true → G ≡ false → C ≡ false)
    (slash-of : G ≡ true → S ≡ true) where
  abbrev ruled : ℕ
  ruled = choose (R && E) (λ _. 1) (λ _. choose (B && (E || G)) (λ _. 6) (λ _. choose (C && M) (λ _. 7) (λ _. 0)))

  abbrev coded : ℕ
  coded =
      choose (E || S)
      (λ _. choose (R && not S) (λ _. 1) (λ _. choose B (λ _. choose S (λ _. choose G (λ _. 6) (λ _. 0)) (λ _. 6)) (λ _. choose (M && C) (λ _. 7) (λ _. 0))))
      (λ _. 0)

  agree : ruled ≡ coded
  agree =
      split E
      (λ e. split S (λ s. clash E e (no_both s)) (λ s. rw (e, s, and-true R, and-true B, and_comm C M)))
      (λ e. split S
      (λ s. split B
      (λ b. split G (λ g. rw (e, s, b, g, and-false R)) (λ g. rw (e, s, b, g, and-false R, need s g)))
      (λ b. rw (e, s, b, and-false R, and_comm C M)))
      (λ s. split G (λ g. clash S (slash-of g) s) (λ g. rw (e, s, g, and-false R, and-false B, shut (rw (e, s))))))

-- ---- what follows a name
break-is : (a : List ℕ) → isNameBreak a ≡ (nameEnds a || begins (bytes "/") a)
break-is [] = refl
break-is (y ∷ ys) = turned (isLineEndingByte y) (isSpaceOrTab y) (eqb y (byte "/")) (eqb y (byte ">"))
  where
    turned : (x y s g : Bool) → ((y || x) || (s || g)) ≡ ((x || (y || (g && true))) || (s && true))
    turned true true s g = refl
    turned true false s g = refl
    turned false true s g = refl
    turned false false true true = refl
    turned false false true false = refl
    turned false false false true = refl
    turned false false false false = refl

slash-first : (y : ℕ) (ys : List ℕ) → begins (bytes "/") (y ∷ ys) ≡ true → y ≡ byte "/"
slash-first y ys h = eqb-true y (byte "/") (and_parts (eqb y (byte "/")) true h).0

no-both-here : (a : List ℕ) → begins (bytes "/") a ≡ true → nameEnds a ≡ false
no-both-here [] h = clash false h refl
no-both-here (y ∷ ys) h = rw (slash-first y ys h)

slash-of-here : (a : List ℕ) → begins (bytes "/>") a ≡ true → begins (bytes "/") a ≡ true
slash-of-here [] h = h
slash-of-here (y ∷ ys) h = rw (and_parts (eqb y (byte "/")) (begins (bytes ">") ys) h).0

module _ (ρ : Rules) where
  abbrev fills : ℕ → List ℕ → Bool
  fills n a = fillsLine (attributes (blockTags ρ) n a)

  -- the number of attributes that are allowed does not matter
  same-fuel : (n m : ℕ) (a : List ℕ) → length a < n → length a < m → fills n a ≡ fills m a
  same-fuel n m a k l = sym (open-is ρ n a k) ∙ open-is ρ m a l

  open-shut : (n : ℕ) (a : List ℕ) → length a < n → isNameBreak a ≡ false → fills n a ≡ false
  unfolding runOf valueQuotedAfterOf
  open-shut n [] l h = clash true refl h
  open-shut n (y ∷ ys) l h = sym (open-is ρ n (y ∷ ys) l) ∙ rw h

  open-need : (n : ℕ) (a : List ℕ) → length a < n → begins (bytes "/") a ≡ true → begins (bytes "/>") a ≡ false → fills n a ≡ false
  unfolding runOf valueQuotedAfterOf nameBeforeOf endOf
  open-need n [] l s h = clash false s refl
  open-need n (y ∷ []) l s h = sym (open-is ρ n (y ∷ []) l) ∙ rw (slash-first y [] s)
  open-need n (y ∷ z ∷ zs) l s h =
      let e : eqb z (byte ">") ≡ false = rw (slash-first y (z ∷ zs) s, and-true (eqb z (byte ">"))) at h in
      sym (open-is ρ n (y ∷ z ∷ zs) l) ∙ rw (slash-first y (z ∷ zs) s, e)

  -- ---- an open tag
  -- what is left behind a name whose first byte is x
  name-left : (x : ℕ) (xs : List ℕ) → isLetter x ≡ true → past isTagNameByte xs ≡ afterName (x ∷ xs)
  unfolding run
  name-left x xs l = past-run isTagNameByte xs ∙ sym (ap (λ b. drop (pick b (suc (run isTagNameByte xs)) 0) (x ∷ xs)) (letter-byte x l))

  after-length : (s : List ℕ) → length (afterName s) ≤ length s
  after-length s = rw (length-drop (run isTagNameByte s) s) (omega arith)

  open-complete : (x : ℕ) (xs : List ℕ) → isLetter x ≡ true
      → startsComplete ρ (byte "<" ∷ x ∷ xs) ≡ completesOf ρ false (isRawName (nameOf (x ∷ xs))) (afterName (x ∷ xs))
  unfolding startsComplete openTag closingTag
  open-complete x xs l =
      let slash : eqb x (byte "/") ≡ false = excluded isLetter (byte "/") x refl l in
      let a = after-length (x ∷ xs) in
      rw (l, slash, name-left x xs l, or-false ((ρ.f3 || not (isRawName (nameOf (x ∷ xs)))) && fills (suc (suc (length xs))) (afterName (x ∷ xs))))
      (ap (λ b. (ρ.f3 || not (isRawName (nameOf (x ∷ xs)))) && b) (same-fuel (suc (suc (length xs))) (suc (length (afterName (x ∷ xs)))) (afterName (x ∷ xs)) (omega arith) (omega arith)))

  open-basic : (x : ℕ) (xs : List ℕ) → isLetter x ≡ true → startsBasic (byte "<" ∷ x ∷ xs) ≡ basicName (x ∷ xs)
  unfolding startsBasic
  open-basic x xs l = rw (excluded isLetter (byte "/") x refl l) (or-false (basicName (x ∷ xs)))

  open-raw : (x : ℕ) (xs : List ℕ) → startsRaw (byte "<" ∷ x ∷ xs) ≡ (isRawName (nameOf (x ∷ xs)) && nameEnds (afterName (x ∷ xs)))
  unfolding startsRaw
  open-raw x xs = refl

  -- the kind of a line that begins with `<` and a letter
  by-conditions : (f x : ℕ) (xs : List ℕ) → isLetter x ≡ true
      → kindAt ρ f (byte "<" ∷ x ∷ xs)
      ≡ choose (startsRaw (byte "<" ∷ x ∷ xs)) (λ _. 1)
      (λ _. choose (startsBasic (byte "<" ∷ x ∷ xs)) (λ _. 6) (λ _. choose (startsComplete ρ (byte "<" ∷ x ∷ xs) && mayStart ρ f) (λ _. 7) (λ _. 0)))
  unfolding kindAt
  by-conditions f x xs l = rw (excluded isLetter (byte "!") x refl l, excluded isLetter (byte "?") x refl l)

  pub open-kind : (f x : ℕ) (xs : List ℕ) → isLetter x ≡ true → kindAt ρ f (byte "<" ∷ x ∷ xs) ≡ tagNameOf ρ f false (nameOf (x ∷ xs)) (afterName (x ∷ xs))
  unfolding tagNameOf completeOf selfClosingOf
  open-kind f x xs l =
      let a : List ℕ = afterName (x ∷ xs) in
      let raw : Bool = isRawName (nameOf (x ∷ xs)) in
      let c : Bool = completesOf ρ false raw a in
      by-conditions f x xs l
      ∙ rw (open-raw x xs, open-basic x xs l, open-complete x xs l)
      (agree (nameEnds a) (begins (bytes "/") a) (begins (bytes "/>") a) raw (isBlockName (nameOf (x ∷ xs))) c (mayStart ρ f) (no-both-here a)
      (λ h. completes-no raw a (open-shut (suc (length a)) a (omega arith) (break-is a ∙ h)))
      (λ s h. completes-no raw a (open-need (suc (length a)) a (omega arith) s h)) (slash-of-here a)
      ∙ ap (λ b. choose b (λ _. choose (raw && not (begins (bytes "/") a)) (λ _. 1) (λ _. choose (isBlockName (nameOf (x ∷ xs))) (λ _. choose (begins (bytes "/") a) (λ _. choose (begins (bytes "/>") a) (λ _. 6) (λ _. 0)) (λ _. 6)) (λ _. choose (mayStart ρ f && c) (λ _. 7) (λ _. 0)))) (λ _. 0)) (sym (break-is a)))
    where
      completes-no : (raw : Bool) (a : List ℕ) → fills (suc (length a)) a ≡ false → completesOf ρ false raw a ≡ false
      completes-no raw a h = rw h (and-false (ρ.f3 || not raw))

  -- ---- a closing tag
  close-shut : (a : List ℕ) → isNameBreak a ≡ false → fillsLine (exactly (bytes ">") (past isWhitespace a)) ≡ false
  close-shut [] h = clash true refl h
  close-shut (y ∷ ys) h =
      let o = (or_parts (isWhitespace y) (eqb y (byte "/") || eqb y (byte ">")) h).1 in
      rw (past-none isWhitespace y ys (or_parts (isWhitespace y) (eqb y (byte "/") || eqb y (byte ">")) h).0, (or_parts (eqb y (byte "/")) (eqb y (byte ">")) o).1)

  close-need : (a : List ℕ) → begins (bytes "/") a ≡ true → fillsLine (exactly (bytes ">") (past isWhitespace a)) ≡ false
  close-need [] h = clash false h refl
  close-need (y ∷ ys) h = rw (slash-first y ys h, past-none isWhitespace (byte "/") ys refl)

  close-complete : (x : ℕ) (xs : List ℕ) → isLetter x ≡ true
      → startsComplete ρ (bytes "</" ++ (x ∷ xs)) ≡ fillsLine (exactly (bytes ">") (past isWhitespace (afterName (x ∷ xs))))
  unfolding startsComplete openTag closingTag
  close-complete x xs l = rw (l, name-left x xs l) (ap (λ b. b || fillsLine (exactly (bytes ">") (past isWhitespace (afterName (x ∷ xs))))) (and-false (ρ.f3 || not (isRawName (nameOf (byte "/" ∷ x ∷ xs))))))

  close-basic : (s : List ℕ) → startsBasic (bytes "</" ++ s) ≡ basicName s
  unfolding startsBasic
  close-basic s = rw (no-block-name (byte "/" ∷ s) refl)

  -- the kind of a line that begins with `</`
  by-two : (f : ℕ) (s : List ℕ)
      → kindAt ρ f (bytes "</" ++ s)
      ≡ choose (startsBasic (bytes "</" ++ s)) (λ _. 6) (λ _. choose (startsComplete ρ (bytes "</" ++ s) && mayStart ρ f) (λ _. 7) (λ _. 0))
  unfolding kindAt
  by-two f s = rw (no-raw-start ρ f (byte "/" ∷ s) refl)

  close-letter : (f x : ℕ) (xs : List ℕ) → isLetter x ≡ true → kindAt ρ f (bytes "</" ++ (x ∷ xs)) ≡ tagNameOf ρ f true (nameOf (x ∷ xs)) (afterName (x ∷ xs))
  unfolding tagNameOf completeOf selfClosingOf
  close-letter f x xs l =
      let a : List ℕ = afterName (x ∷ xs) in
      let raw : Bool = isRawName (nameOf (x ∷ xs)) in
      let c : Bool = fillsLine (exactly (bytes ">") (past isWhitespace a)) in
      by-two f (x ∷ xs)
      ∙ rw (close-basic (x ∷ xs), close-complete x xs l, and-false raw)
      (agree (nameEnds a) (begins (bytes "/") a) (begins (bytes "/>") a) false (isBlockName (nameOf (x ∷ xs))) c (mayStart ρ f) (no-both-here a)
      (λ h. close-shut a (break-is a ∙ h)) (λ s h. close-need a s) (slash-of-here a)
      ∙ ap (λ b. choose b (λ _. choose (isBlockName (nameOf (x ∷ xs))) (λ _. choose (begins (bytes "/") a) (λ _. choose (begins (bytes "/>") a) (λ _. 6) (λ _. 0)) (λ _. 6)) (λ _. choose (mayStart ρ f && c) (λ _. 7) (λ _. 0))) (λ _. 0)) (sym (break-is a)))

  complete-no : (s : List ℕ) → isLetter (first s) ≡ false → startsComplete ρ (bytes "</" ++ s) ≡ false
  unfolding startsComplete openTag closingTag
  complete-no s e = rw e (ap (λ b. b || false) (and-false (ρ.f3 || not (isRawName (nameOf (byte "/" ∷ s))))))

  close-other : (f : ℕ) (s : List ℕ) → isLetter (first s) ≡ false → kindAt ρ f (bytes "</" ++ s) ≡ 0
  close-other f s e = by-two f s ∙ rw (close-basic s, no-block-name s e) (ap (λ b. choose (b && mayStart ρ f) (λ _. 7) (λ _. 0)) (complete-no s e))

  pub close-kind : (f : ℕ) (s : List ℕ) → kindAt ρ f (bytes "</" ++ s) ≡ tagCloseStartOf ρ f s
  unfolding tagCloseStartOf
  close-kind f [] = close-other f [] refl
  close-kind f (x ∷ xs) = split (isLetter x) (λ l. close-letter f x xs l ∙ rw l) (λ l. close-other f (x ∷ xs) l ∙ rw l)

  -- ---- all openings
  pub kind-is : (f : ℕ) (s : List ℕ) → kindAt ρ f (byte "<" ∷ s) ≡ openOf ρ f s
  unfolding openOf
  kind-is f [] = nothing-kind ρ f
  kind-is f (x ∷ xs) =
      split (eqb x (byte "!")) (λ e. rw (eqb-true x (byte "!") e) (declaration-kind ρ f xs))
      (λ a. split (eqb x (byte "/")) (λ e. rw (eqb-true x (byte "/") e) (close-kind f xs))
      (λ b. split (eqb x (byte "?")) (λ e. rw (eqb-true x (byte "?") e) (instruction-kind ρ f xs))
      (λ c. rw (a, b, c) (split (isLetter x) (λ l. open-kind f x xs l ∙ rw l) (λ l. other-kind ρ f x xs a b c l ∙ rw l)))))

  pub not-opened : (f x : ℕ) (xs : List ℕ) → eqb x (byte "<") ≡ false → kindAt ρ f (x ∷ xs) ≡ 0
  unfolding kindAt startsRaw startsBasic startsComplete openTag closingTag
  not-opened f x xs e = rw e (ap (λ b. choose ((b || false) && mayStart ρ f) (λ _. 7) (λ _. 0)) (and-false (ρ.f3 || not (isRawName (nameOf xs)))))

  pub nothing-opened : (f : ℕ) → kindAt ρ f [] ≡ 0
  unfolding kindAt startsRaw startsBasic startsComplete openTag closingTag
  nothing-opened f = ap (λ b. choose ((b || false) && mayStart ρ f) (λ _. 7) (λ _. 0)) (and-false (ρ.f3 || not (isRawName (nameOf []))))
