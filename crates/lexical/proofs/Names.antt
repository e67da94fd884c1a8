-- The tables of names. One computed test says of each that their bytes are lower case letters or digits, their names are in order and by letter, their
-- offsets rise and cut just the names, and these are few enough for a place to be a byte; the laws turn it into the rule at each entry. And what a place says of
-- the name.
use Rattle.std.proofs.Common.{◌≡◌, ℕ, suc, ◌+◌, ◌-◌, ◌<◌, ◌≤◌, Bool, true, false, not, ◌&&◌, ◌||◌, eqb, ltb, leb, List, [], ◌∷◌, map, length, get_or, take, drop, sym, refl, ap, ◌∙◌, arith, ltb-false, ltb-true, ne_eqb, leb-true, Some, is_some}
use Rattle.std.proofs.lemmas.Bool.{and_parts}
use Rattle.std.proofs.lemmas.List.{drop_all, drop_more}
use Rattle.lexical.specs.Byte.{within, isDigit, lower}
use Rattle.lexical.specs.Text.{byte}
use Rattle.lexical.specs.Name.{blockNames, rawNames, disallowedNames, sameBytes, isMember, isBlockName, isRawName, isDisallowedName, unnamed, named, placeFrom, blockPlace, rawPlace, StandsAt, nameBytes, nameOffsets, cut, all, chain, rising, letterStarts, byLetter, LetterTable}
use Rattle.lexical.proofs.Cases.{split, clash}
use Rattle.lexical.proofs.Same.{same-equal}
use Rattle.lexical.proofs.Table.{all-at, chain-at}

-- a lower case letter or a digit
abbrev pub isLowerByte : ℕ → Bool
isLowerByte b = within (byte "a") (byte "z") b || isDigit b

-- strictly before, in the order of byte strings
abbrev pub before : List ℕ → List ℕ → Bool
before xs [] = false
before [] (y ∷ ys) = true
before (x ∷ xs) (y ∷ ys) = ltb x y || (eqb x y && before xs ys)

-- the names are the same, one by one
unfoldable pub sameNames : List (List ℕ) → List (List ℕ) → Bool
sameNames [] [] = true
sameNames [] (y ∷ ys) = false
sameNames (x ∷ xs) [] = false
sameNames (x ∷ xs) (y ∷ ys) = sameBytes x y && sameNames xs ys

pub same-names : (xs ys : List (List ℕ)) → sameNames xs ys ≡ true → xs ≡ ys
unfolding sameNames
same-names [] [] e = refl
same-names [] (y ∷ ys) e = cc
same-names (x ∷ xs) [] e = cc
same-names (x ∷ xs) (y ∷ ys) e =
    let p : x ≡ y = same-equal x y (and_parts (sameBytes x y) (sameNames xs ys) e).0 in
    let q : xs ≡ ys = same-names xs ys (and_parts (sameBytes x y) (sameNames xs ys) e).1 in
    cc

-- the offsets of a list of names cut just those names
abbrev pub cuts : List (List ℕ) → Bool
cuts names = sameNames (cut (nameBytes names) (nameOffsets 0 names)) names

-- the whole test of a table
unfoldable pub sound : List (List ℕ) → Bool
sound names =
    all isLowerByte (nameBytes names)
    && (chain before names && (rising (length (nameBytes names)) (nameOffsets 0 names) && (cuts names && (byLetter names && ltb (length names) unnamed))))

pub tables-sound : all sound (blockNames ∷ rawNames ∷ disallowedNames ∷ []) ≡ true
unfolding sound sameNames sameBytes all chain rising cut byLetter nameBytes nameOffsets blockNames rawNames disallowedNames
tables-sound = refl

pub block-sound : sound blockNames ≡ true
block-sound = all-at [] sound (blockNames ∷ rawNames ∷ disallowedNames ∷ []) tables-sound 0 (omega arith)

pub raw-sound : sound rawNames ≡ true
raw-sound = all-at [] sound (blockNames ∷ rawNames ∷ disallowedNames ∷ []) tables-sound 1 (omega arith)

pub disallowed-sound : sound disallowedNames ≡ true
disallowed-sound = all-at [] sound (blockNames ∷ rawNames ∷ disallowedNames ∷ []) tables-sound 2 (omega arith)

-- 62 names and 4; 294 bytes, 63 offsets
pub block-count : length blockNames ≡ 62
unfolding blockNames
block-count = refl

pub raw-count : length rawNames ≡ 4
unfolding rawNames
raw-count = refl

pub block-length : length (nameBytes blockNames) ≡ 294
unfolding blockNames nameBytes
block-length = refl

pub block-last : get_or (nameOffsets 0 blockNames) 62 0 ≡ 294
unfolding blockNames nameOffsets
block-last = refl

-- one offset more than names
offsets-length : (n : ℕ) (names : List (List ℕ)) → length (nameOffsets n names) ≡ suc (length names)
unfolding nameOffsets
offsets-length n [] = refl
offsets-length n (x ∷ xs) = ap suc (offsets-length (n + length x) xs)

module _ (names : List (List ℕ)) (e : sound names ≡ true) where
  abbrev lows : Bool
  lows = all isLowerByte (nameBytes names)

  abbrev order : Bool
  order = chain before names

  abbrev rise : Bool
  rise = rising (length (nameBytes names)) (nameOffsets 0 names)

  abbrev few : Bool
  few = ltb (length names) unnamed

  behind-lows : (order && (rise && (cuts names && (byLetter names && few)))) ≡ true
  unfolding sound
  behind-lows = (and_parts lows (order && (rise && (cuts names && (byLetter names && few)))) e).1

  behind-order : (rise && (cuts names && (byLetter names && few))) ≡ true
  behind-order = (and_parts order (rise && (cuts names && (byLetter names && few))) behind-lows).1

  behind-rise : (cuts names && (byLetter names && few)) ≡ true
  behind-rise = (and_parts rise (cuts names && (byLetter names && few)) behind-order).1

  behind-cuts : (byLetter names && few) ≡ true
  behind-cuts = (and_parts (cuts names) (byLetter names && few) behind-rise).1

  pub lower-at : (k : ℕ) → k < length (nameBytes names) → isLowerByte (get_or (nameBytes names) k 0) ≡ true
  unfolding sound
  lower-at k h = all-at 0 isLowerByte (nameBytes names) (and_parts lows (order && (rise && (cuts names && (byLetter names && few)))) e).0 k h

  pub order-at : (k : ℕ) → k + 1 < length names → before (get_or names k []) (get_or names (k + 1) []) ≡ true
  order-at k h = chain-at [] before names (and_parts order (rise && (cuts names && (byLetter names && few))) behind-lows).0 k h

  pub offsets-rise : rise ≡ true
  offsets-rise = (and_parts rise (cuts names && (byLetter names && few)) behind-order).0

  pub cut-is : cut (nameBytes names) (nameOffsets 0 names) ≡ names
  cut-is = same-names (cut (nameBytes names) (nameOffsets 0 names)) names (and_parts (cuts names) (byLetter names && few) behind-rise).0

  pub by-letter : byLetter names ≡ true
  by-letter = (and_parts (byLetter names) few behind-cuts).0

  pub count-fits : length names < unnamed
  count-fits = ltb-true (length names) unnamed (and_parts (byLetter names) few behind-cuts).1

  -- a table that cuts to the names, by rising offsets
  pub cut-table : (table offsets starts : List ℕ) → rising (length table) offsets ≡ true → length offsets ≡ suc (length names) → cut table offsets ≡ names → starts ≡ letterStarts names → LetterTable table offsets starts
  cut-table table offsets starts r o n s =
      record { rise = r; counted = o ∙ ap (λ l. suc (length l)) (sym n); few = omega (arith, o, count-fits); order = ap byLetter n ∙ by-letter; begin = s ∙ ap letterStarts (sym n) }

  -- a table as the code has it
  module _ (table offsets starts : List ℕ) (t : table ≡ nameBytes names) (o : offsets ≡ nameOffsets 0 names) (s : starts ≡ letterStarts names) where
    pub names-are : cut table offsets ≡ names
    names-are = rw (t, o, cut-is)

    offsets-count : length offsets ≡ suc (length names)
    offsets-count = ap length o ∙ offsets-length 0 names

    pub letter-table : LetterTable table offsets starts
    letter-table = cut-table table offsets starts (rw (t, o) offsets-rise) offsets-count names-are s

    pub place-in-list : (n : List ℕ) → placeFrom 0 n (cut table offsets) ≡ placeFrom 0 n names
    place-in-list n = ap (placeFrom 0 n) names-are

-- what rising offsets say of each
module _ (n : ℕ) (offsets : List ℕ) (e : rising n offsets ≡ true) (k : ℕ) (h : k + 1 < length offsets) where
  pub rises : get_or offsets k 0 < get_or offsets (k + 1) 0
  unfolding rising
  rises = ltb-true _ _ (chain-at 0 ltb offsets (and_parts (all (λ o. leb o n) offsets) (chain ltb offsets) e).1 k h)

  pub within-table : get_or offsets (k + 1) 0 ≤ n
  unfolding rising
  within-table = leb-true _ _ (all-at 0 (λ o. leb o n) offsets (and_parts (all (λ o. leb o n) offsets) (chain ltb offsets) e).0 (k + 1) h)

-- the names that a table and its offsets cut, from offset k on: the one between it and the next, and those behind
module _ (table offsets : List ℕ) (k : ℕ) where
  abbrev pub namesFrom : List (List ℕ)
  namesFrom = cut table (drop k offsets)

  abbrev pub part : List ℕ
  part = take (get_or offsets (k + 1) 0 - get_or offsets k 0) (drop (get_or offsets k 0) table)

  pub names-in : k + 1 < length offsets → namesFrom ≡ part ∷ cut table (drop (k + 1) offsets)
  unfolding cut
  names-in h = let l : k < length offsets = omega arith in rw (drop_more offsets k 0 l, drop_more offsets (k + 1) 0 h)

  pub names-out : length offsets ≤ k + 1 → namesFrom ≡ []
  unfolding cut
  names-out h =
      split (ltb k (length offsets)) (λ t. rw (drop_more offsets k 0 (ltb-true k (length offsets) t), drop_all (k + 1) offsets h))
      (λ t. rw (drop_all k offsets (ltb-false k (length offsets) t)))

-- ---- a place, if it is one
pub named-place : (n : ℕ) → n < unnamed → named n ≡ Some n
named-place n h = rw (ne_eqb n unnamed (λ z. omega arith))

pub is-named : (n : ℕ) → is_some (named n) ≡ not (eqb n unnamed)
is-named n = split (eqb n unnamed) (λ e. rw e) (λ e. rw e)

-- ---- the place says whether it is there
place-member : (k : ℕ) (n : List ℕ) (names : List (List ℕ)) → k + length names ≤ unnamed → isMember n names ≡ not (eqb (placeFrom k n names) unnamed)
unfolding isMember placeFrom
place-member k n [] h = refl
place-member k n (x ∷ xs) h =
    split (sameBytes n x) (λ e. let u = ne_eqb k unnamed (λ z. omega arith) in rw (e, u)) (λ e. rw e (place-member (suc k) n xs (omega arith)))

place-tells : (names : List (List ℕ)) → sound names ≡ true → (n : List ℕ) (place : ℕ) → place ≡ placeFrom 0 n names → isMember n names ≡ not (eqb place unnamed)
place-tells names s n place e = place-member 0 n names (omega (arith, count-fits names s)) ∙ ap (λ p. not (eqb p unnamed)) (sym e)

module _ (n : List ℕ) (place : ℕ) where
  pub block-place-is : place ≡ blockPlace n → isBlockName n ≡ not (eqb place unnamed)
  unfolding isBlockName blockPlace
  block-place-is e = place-tells blockNames block-sound (map lower n) place e

  pub raw-place-is : place ≡ rawPlace n → isRawName n ≡ not (eqb place unnamed)
  unfolding isRawName rawPlace
  raw-place-is e = place-tells rawNames raw-sound (map lower n) place e

  pub disallowed-place-is : place ≡ placeFrom 0 (map lower n) disallowedNames → isDisallowedName n ≡ not (eqb place unnamed)
  unfolding isDisallowedName
  disallowed-place-is e = place-tells disallowedNames disallowed-sound (map lower n) place e

-- ---- the name at the place is it
-- in a list whose first name has the place k
abbrev StandsFrom : ℕ → List ℕ → List (List ℕ) → ℕ → Type 0
StandsFrom k n names p = (k ≤ p) × ((p < k + length names) × (get_or names (p - k) [] ≡ n))

stands-first : (k : ℕ) (n x : List ℕ) (xs : List (List ℕ)) → n ≡ x → StandsFrom k n (x ∷ xs) k
stands-first k n x xs e = let z : k - k ≡ 0 = omega arith in (omega arith, (omega arith, rw z (sym e)))

stands-behind : (k : ℕ) (n x : List ℕ) (xs : List (List ℕ)) (p : ℕ) → StandsFrom (suc k) n xs p → StandsFrom k n (x ∷ xs) p
stands-behind k n x xs p (a, (b, c)) = let z : p - k ≡ suc (p - suc k) = omega arith in (omega arith, (omega arith, rw z c))

stands-from : (k : ℕ) (n : List ℕ) (names : List (List ℕ)) → isMember n names ≡ true → StandsFrom k n names (placeFrom k n names)
unfolding isMember placeFrom
stands-from k n [] h = clash false h refl
stands-from k n (x ∷ xs) h =
    split (sameBytes n x) (λ e. rw e (stands-first k n x xs (same-equal n x e))) (λ e. rw e (stands-behind k n x xs _ (stands-from (suc k) n xs (rw e at h))))

module _ (n : List ℕ) where
  stands : (names : List (List ℕ)) → isMember (map lower n) names ≡ true → StandsAt names n (placeFrom 0 (map lower n) names)
  stands names h =
      let s = stands-from 0 (map lower n) names h in
      let z : placeFrom 0 (map lower n) names - 0 ≡ placeFrom 0 (map lower n) names = omega arith in
      record { within = omega (arith, s.1.0); there = rw z at s.1.1 }

  pub block-stands : isBlockName n ≡ true → StandsAt blockNames n (blockPlace n)
  unfolding isBlockName blockPlace
  block-stands h = stands blockNames h

  pub raw-stands : isRawName n ≡ true → StandsAt rawNames n (rawPlace n)
  unfolding isRawName rawPlace
  raw-stands h = stands rawNames h
