-- The lookup by the first letter: only the names that begin as a name does can be it, and so its place among them is its place in the list. They are compared one
-- by one; each is what the offsets at its place cut. And a part of the offsets cuts a part of the names.
use Rattle.std.proofs.Common.{◌≡◌, ℕ, zero, suc, ◌+◌, ◌-◌, ◌<◌, ◌≤◌, true, false, eqb, List, [], ◌∷◌, ◌++◌, map, length, get_or, take, drop, sym, refl, ap, ◌∙◌, append-nil, add-one, arith, length-append, take-append-drop, drop_of_length-le, drop-cons, length-take-le, eq-eqb, slice_range}
use Rattle.lexical.specs.Text.{first, none}
use Rattle.lexical.specs.Byte.{lower}
use Rattle.lexical.specs.Name.{sameBytes, placeFrom, unnamed, cut, beginningWith, Exactly, letters, letterStarts, startsFrom, GoesTo, LetterTable}
use Rattle.lexical.proofs.Cases.{split, clash}
use Rattle.lexical.proofs.Same.{same-equal}
use Rattle.lexical.proofs.Names.{rises, within-table}
use Rattle.lexical.proofs.Letters.{at-no-letter}

-- ---- only they can be the name
-- a name that begins otherwise is another
unlike : (n x : List ℕ) → eqb (first x) (first n) ≡ false → sameBytes n x ≡ false
unlike n x e = split (sameBytes n x) (λ s. clash (eqb (first x) (first n)) (eq-eqb (first x) (first n) (ap first (sym (same-equal n x s)))) e) (λ s. s)

-- names of which none begins as n does are passed over
over : (k : ℕ) (n : List ℕ) (front rest : List (List ℕ)) → beginningWith (first n) front ≡ [] → placeFrom k n (front ++ rest) ≡ placeFrom (k + length front) n rest
unfolding placeFrom beginningWith
over k n [] rest h = let z : k + 0 ≡ k = omega arith in rw z
over k n (x ∷ xs) rest h =
    split (eqb (first x) (first n)) (λ s. let z = ap length (rw s at h) in absurd (omega arith))
    (λ s. let z : k + suc (length xs) ≡ suc k + length xs = omega arith in rw (unlike n x s, z) (over (suc k) n xs rest (rw s at h)))

-- and behind the others they change nothing
without : (k : ℕ) (n : List ℕ) (names back : List (List ℕ)) → beginningWith (first n) back ≡ [] → placeFrom k n (names ++ back) ≡ placeFrom k n names
unfolding placeFrom
without k n [] back h = ap (placeFrom k n) (sym (append-nil back)) ∙ over k n back [] h
without k n (x ∷ xs) back h = split (sameBytes n x) (λ s. rw s) (λ s. rw s (without (suc k) n xs back h))

begins-append : (b : ℕ) (xs ys : List (List ℕ)) → beginningWith b (xs ++ ys) ≡ beginningWith b xs ++ beginningWith b ys
unfolding beginningWith
begins-append b [] ys = refl
begins-append b (x ∷ xs) ys = split (eqb (first x) b) (λ s. rw s (ap (λ l. x ∷ l) (begins-append b xs ys))) (λ s. rw s (begins-append b xs ys))

begins-twice : (b : ℕ) (xs : List (List ℕ)) → beginningWith b (beginningWith b xs) ≡ beginningWith b xs
unfolding beginningWith
begins-twice b [] = refl
begins-twice b (x ∷ xs) = split (eqb (first x) b) (λ s. rw (s, s) (ap (λ l. x ∷ l) (begins-twice b xs))) (λ s. rw s (begins-twice b xs))

module _ (names : List (List ℕ)) (b from to : ℕ) (e : Exactly names b from to) where
  abbrev front : List (List ℕ)
  front = take from names

  abbrev those : List (List ℕ)
  those = take (to - from) (drop from names)

  abbrev back : List (List ℕ)
  back = drop (to - from) (drop from names)

  parts : names ≡ front ++ (those ++ back)
  parts = sym (ap (λ l. front ++ l) (take-append-drop (to - from) (drop from names)) ∙ take-append-drop from names)

  all-there : beginningWith b those ≡ those
  all-there = ap (beginningWith b) e.same ∙ begins-twice b names ∙ sym e.same

  -- so none stands elsewhere
  begun : those ≡ beginningWith b front ++ (those ++ beginningWith b back)
  begun =
      e.same
      ∙ ap (beginningWith b) parts
      ∙ begins-append b front (those ++ back)
      ∙ ap (λ l. beginningWith b front ++ l) (begins-append b those back ∙ ap (λ l. l ++ beginningWith b back) all-there)

  counted : length those ≡ length (beginningWith b front) + (length those + length (beginningWith b back))
  counted = ap length begun ∙ length-append (beginningWith b front) (those ++ beginningWith b back) ∙ ap (λ k. length (beginningWith b front) + k) (length-append those (beginningWith b back))

  none-before : beginningWith b front ≡ []
  none-before = drop_of_length-le (beginningWith b front) {i = 0} (omega (arith, counted))

  none-behind : beginningWith b back ≡ []
  none-behind = drop_of_length-le (beginningWith b back) {i = 0} (omega (arith, counted))

  place-at : (n : List ℕ) → first n ≡ b → placeFrom 0 n names ≡ placeFrom from n those
  place-at n f =
      ap (placeFrom 0 n) parts
      ∙ over 0 n front (those ++ back) (rw f none-before)
      ∙ without (0 + length front) n those back (rw f none-behind)
      ∙ ap (λ k. placeFrom k n those) before
    where
      before : 0 + length front ≡ from
      before = omega (arith, length-take-le from names (omega (arith, e.forward, e.inside)))

-- ---- among the names from one place up to another
module _ (names : List (List ℕ)) (n : List ℕ) (i to : ℕ) where
  abbrev pub placeAmong : ℕ
  placeAmong = placeFrom i n (take (to - i) (drop i names))

  -- the first of them is it, or it is looked for behind
  module _ (h : i < to) (l : to ≤ length names) where
    among : take (to - i) (drop i names) ≡ get_or names i [] ∷ take (to - (i + 1)) (drop (i + 1) names)
    among =
        let z : to - i ≡ suc (to - (i + 1)) = omega arith in
        rw (z, add-one, drop-cons names i [] (omega arith)) refl

    pub hit : sameBytes n (get_or names i []) ≡ true → placeAmong ≡ i
    unfolding placeFrom
    hit t = ap (placeFrom i n) among ∙ rw t

    pub miss : sameBytes n (get_or names i []) ≡ false → placeFrom (i + 1) n (take (to - (i + 1)) (drop (i + 1) names)) ≡ placeAmong
    unfolding placeFrom
    miss t = let z : i + 1 ≡ suc i = omega arith in sym (ap (placeFrom i n) among ∙ rw (t, z))

  pub no-more : to ≤ i → placeAmong ≡ unnamed
  unfolding placeFrom
  no-more h = let z : to - i ≡ 0 = omega arith in rw z

-- ---- a part of the offsets cuts a part of the names
module _ (table : List ℕ) where
  cut-drop : (k : ℕ) (offsets : List ℕ) → cut table (drop k offsets) ≡ drop k (cut table offsets)
  unfolding cut
  cut-drop zero offsets = refl
  cut-drop (suc k) [] = refl
  cut-drop (suc zero) (a ∷ []) = refl
  cut-drop (suc (suc k)) (a ∷ []) = refl
  cut-drop (suc k) (a ∷ b ∷ rest) = cut-drop k (b ∷ rest)

  cut-take : (m : ℕ) (offsets : List ℕ) → cut table (take (suc m) offsets) ≡ take m (cut table offsets)
  unfolding cut
  cut-take zero [] = refl
  cut-take zero (a ∷ rest) = refl
  cut-take (suc m) [] = refl
  cut-take (suc m) (a ∷ []) = refl
  cut-take (suc m) (a ∷ b ∷ rest) = ap (λ l. take (b - a) (drop a table) ∷ l) (cut-take m (b ∷ rest))

  -- the names between two places
  pub cut-part : (k m : ℕ) (offsets : List ℕ) → cut table (take (suc m) (drop k offsets)) ≡ take m (drop k (cut table offsets))
  cut-part k m offsets = cut-take m (drop k offsets) ∙ ap (take m) (cut-drop k offsets)

-- ---- as the code has them
-- the part between an offset and the next is the name there
cut-at : (table offsets : List ℕ) (k : ℕ) → k + 1 < length offsets → slice_range table (get_or offsets k 0) (get_or offsets (k + 1) 0) ≡ get_or (cut table offsets) k []
unfolding cut
cut-at table [] k h = absurd (omega arith)
cut-at table (a ∷ []) k h = absurd (omega arith)
cut-at table (a ∷ b ∷ rest) zero h = refl
cut-at table (a ∷ b ∷ rest) (suc k) h = let z : suc k + 1 ≡ suc (k + 1) = omega arith in rw z (cut-at table (b ∷ rest) k (omega arith))

-- the first byte of a name in lower case
begins : (n : List ℕ) → (length n ≡ 0 → ⊥) → first (map lower n) ≡ lower (get_or n 0 0)
begins [] h = absurd (h refl)
begins (x ∷ xs) h = refl

module _ (table offsets starts : List ℕ) (t : LetterTable table offsets starts) where
  abbrev names : List (List ℕ)
  names = cut table offsets

  pub starts-long : letters < length starts
  unfolding letterStarts startsFrom
  starts-long = omega (arith, ap length t.begin)

  pub no-name : (name : List ℕ) → length name ≡ 0 → unnamed ≡ placeFrom 0 (map lower name) names
  unfolding placeFrom
  no-name name e = rw (drop_of_length-le name {i = 0} (omega (arith, e))) (sym (place-at names none 0 0 (at-no-letter names t.order none refl) [] refl))

  -- the name at a place
  module _ (k : ℕ) (h : k < length names) where
    pub forward : get_or offsets k 0 < get_or offsets (k + 1) 0
    forward = rises (length table) offsets t.rise k (omega (arith, t.counted))

    pub inside : get_or offsets (k + 1) 0 ≤ length table
    inside = within-table (length table) offsets t.rise k (omega (arith, t.counted))

    pub name-is : slice_range table (get_or offsets k 0) (get_or offsets (k + 1) 0) ≡ get_or names k []
    name-is = cut-at table offsets k (omega (arith, t.counted))

    pub few : k < unnamed
    few = omega (arith, t.counted, t.few)

  -- the places of the names that begin as a name does
  module _ (name : List ℕ) (from to : ℕ) (g : GoesTo starts (lower (get_or name 0 0)) from to) (some : length name ≡ 0 → ⊥) where
    exact : Exactly names (lower (get_or name 0 0)) from to
    exact = g names t.order t.begin

    pub up : from ≤ to
    up = exact.forward

    pub there : to ≤ length names
    there = exact.inside

    pub place-among : placeAmong names (map lower name) from to ≡ placeFrom 0 (map lower name) names
    place-among = sym (place-at names (lower (get_or name 0 0)) from to exact (map lower name) (begins name some))

    -- and so it is among the names that the offsets between the places cut
    pub place-is : placeFrom from (map lower name) (cut table (take (to + 1 - from) (drop from offsets))) ≡ placeFrom 0 (map lower name) names
    place-is =
        let z : to + 1 - from ≡ suc (to - from) = omega (arith, exact.forward) in
        ap (λ k. placeFrom from (map lower name) (cut table (take k (drop from offsets)))) z
        ∙ ap (placeFrom from (map lower name)) (cut-part table from (to - from) offsets)
        ∙ place-among
