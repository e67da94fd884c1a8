-- Names by their first letter: in a list by letter those that begin with a byte stand side by side, where the list's starts say.
use Rattle.std.proofs.Common.{◌≡◌, ℕ, zero, suc, ◌+◌, ◌-◌, ◌<◌, ◌≤◌, Bool, true, false, eqb, ltb, leb, List, [], ◌∷◌, length, get_or, take, drop, sym, refl, ap, arith, ltb-false, ltb-true, le-ltb, lt-ltb, eq-eqb, ne_eqb, le-leb, leb-true}
use Rattle.std.proofs.lemmas.Bool.{and_parts}
use borrow.Author.Tests.{lt-leb}
use Rattle.lexical.specs.Text.{byte, first}
use Rattle.lexical.specs.Byte.{within}
use Rattle.lexical.specs.Name.{all, chain, beginningWith, Exactly, namesBelow, startsFrom, letters, letterStarts, byLetter, GoesTo}
use Rattle.lexical.proofs.Cases.{split, excluded}
use Rattle.lexical.proofs.Table.{chain-tail}

-- ---- side by side
abbrev inOrder : List ℕ → List ℕ → Bool
inOrder x y = leb (first x) (first y)

abbrev from-byte : ℕ → List (List ℕ) → Bool
from-byte b names = all (λ x. leb b (first x)) names

-- in order, no name behind one begins with an earlier byte than it
behind : (b : ℕ) (x : List ℕ) (xs : List (List ℕ)) → chain inOrder (x ∷ xs) ≡ true → b ≤ first x → from-byte b (x ∷ xs) ≡ true
unfolding all chain
behind b x [] e h = rw (le-leb b (first x) h)
behind b x (y ∷ ys) e h =
    let s : first x ≤ first y = leb-true (first x) (first y) (and_parts (inOrder x y) (chain inOrder (y ∷ ys)) e).0 in
    rw (le-leb b (first x) h) (behind b y ys (and_parts (inOrder x y) (chain inOrder (y ∷ ys)) e).1 (omega arith))

-- names of which none begins with a byte below b
none-below : (b : ℕ) (names : List (List ℕ)) → from-byte b names ≡ true → namesBelow b names ≡ 0
unfolding all namesBelow
none-below b [] e = refl
none-below b (x ∷ xs) e =
    let h : b ≤ first x = leb-true b (first x) (and_parts (leb b (first x)) (from-byte b xs) e).0 in
    rw (le-ltb (first x) b h) (none-below b xs (and_parts (leb b (first x)) (from-byte b xs) e).1)

-- names whose first bytes all pass a test that b does not: none begins with b
none-begins : (f : ℕ → Bool) (b : ℕ) (names : List (List ℕ)) → all (λ x. f (first x)) names ≡ true → f b ≡ false → beginningWith b names ≡ []
unfolding all beginningWith
none-begins f b [] h e = refl
none-begins f b (x ∷ xs) h e =
    let d : eqb (first x) b ≡ false = excluded f b (first x) e (and_parts (f (first x)) (all (λ y. f (first y)) xs) h).0 in
    rw d (none-begins f b xs (and_parts (f (first x)) (all (λ y. f (first y)) xs) h).1 e)

-- the names from where those of a byte begin to where those of the next do are those that begin with it
abbrev SideBySide : ℕ → List (List ℕ) → Type 0
SideBySide b names = take (namesBelow (suc b) names - namesBelow b names) (drop (namesBelow b names) names) ≡ beginningWith b names

module _ (b : ℕ) (x : List ℕ) (xs : List (List ℕ)) (e : chain inOrder (x ∷ xs) ≡ true) (rest : SideBySide b xs) where
  begins-earlier : first x < b → SideBySide b (x ∷ xs)
  unfolding namesBelow beginningWith
  begins-earlier h =
      let z : suc (namesBelow (suc b) xs) - suc (namesBelow b xs) ≡ namesBelow (suc b) xs - namesBelow b xs = omega arith in
      rw (lt-ltb (first x) b h, lt-ltb (first x) (suc b) (omega arith), ne_eqb (first x) b (λ w. omega arith), z) rest

  begins-so : first x ≡ b → SideBySide b (x ∷ xs)
  unfolding namesBelow beginningWith all
  begins-so h =
      let n : namesBelow b xs ≡ 0 = none-below b xs (and_parts (leb b (first x)) (from-byte b xs) (behind b x xs e (omega arith))).1 in
      let z : suc (namesBelow (suc b) xs) - 0 ≡ suc (namesBelow (suc b) xs) = omega arith in
      let y : namesBelow (suc b) xs - 0 ≡ namesBelow (suc b) xs = omega arith in
      rw (le-ltb (first x) b (omega arith), lt-ltb (first x) (suc b) (omega arith), eq-eqb (first x) b h, n, z) (ap (λ l. x ∷ l) (rw (n, y) at rest))

  begins-later : b < first x → SideBySide b (x ∷ xs)
  begins-later h =
      let a : from-byte (suc b) (x ∷ xs) ≡ true = behind (suc b) x xs e h in
      let n : namesBelow (suc b) (x ∷ xs) ≡ 0 = none-below (suc b) (x ∷ xs) a in
      let z : 0 - namesBelow b (x ∷ xs) ≡ 0 = omega arith in
      rw (n, z) (sym (none-begins (leb (suc b)) b (x ∷ xs) a (lt-leb (suc b) b (omega arith))))

side-by-side : (b : ℕ) (names : List (List ℕ)) → chain inOrder names ≡ true → SideBySide b names
unfolding namesBelow beginningWith
side-by-side b [] e = refl
side-by-side b (x ∷ xs) e =
    let rest = side-by-side b xs (chain-tail inOrder x xs e) in
    split (ltb (first x) b) (λ l. begins-earlier b x xs e rest (ltb-true (first x) b l))
    (λ l.
    let least = ltb-false (first x) b l in
    split (ltb b (first x)) (λ m. begins-later b x xs e rest (ltb-true b (first x) m))
    (λ m. let most = ltb-false b (first x) m in begins-so b x xs e rest (omega arith)))

-- the two places are in their order, and in the list
below-more : (b : ℕ) (names : List (List ℕ)) → namesBelow b names ≤ namesBelow (suc b) names
unfolding namesBelow
below-more b [] = omega arith
below-more b (x ∷ xs) =
    let h = below-more b xs in
    split (ltb (first x) b) (λ l. let a = ltb-true (first x) b l in rw (l, lt-ltb (first x) (suc b) (omega arith)) (omega arith))
    (λ l. split (ltb (first x) (suc b)) (λ m. rw (l, m) (omega arith)) (λ m. rw (l, m) h))

below-all : (b : ℕ) (names : List (List ℕ)) → namesBelow b names ≤ length names
unfolding namesBelow
below-all b [] = omega arith
below-all b (x ∷ xs) = let h = below-all b xs in split (ltb (first x) b) (λ l. rw l (omega arith)) (λ l. rw l (omega arith))

-- ---- what the starts say
starts-at : (n b : ℕ) (names : List (List ℕ)) (k : ℕ) → k ≤ n → get_or (startsFrom n b names) k 0 ≡ namesBelow (b + k) names
unfolding startsFrom
starts-at zero b names zero h = let z : b + 0 ≡ b = omega arith in rw z
starts-at zero b names (suc k) h = absurd (omega arith)
starts-at (suc n) b names zero h = let z : b + 0 ≡ b = omega arith in rw z
starts-at (suc n) b names (suc k) h = let z : b + suc k ≡ suc b + k = omega arith in rw z (starts-at n (suc b) names k (omega arith))

abbrev pub isLower : ℕ → Bool
isLower b = within (byte "a") (byte "z") b

module _ (names : List (List ℕ)) (e : byLetter names ≡ true) where
  abbrev lettered : Bool
  lettered = all (λ x. isLower (first x)) names

  abbrev ordered : Bool
  ordered = chain inOrder names

  pub begin-lower : lettered ≡ true
  unfolding byLetter
  begin-lower = (and_parts lettered ordered e).0

  -- from where a letter begins to where the next does
  at-letter : (k : ℕ) → k < letters → Exactly names (byte "a" + k) (get_or (letterStarts names) k 0) (get_or (letterStarts names) (k + 1) 0)
  unfolding byLetter letterStarts
  at-letter k h =
      let z : byte "a" + (k + 1) ≡ suc (byte "a" + k) = omega arith in
      rw (starts-at letters (byte "a") names k (omega arith), starts-at letters (byte "a") names (k + 1) (omega arith), z)
      (record { forward = below-more (byte "a" + k) names; inside = below-all (suc (byte "a" + k)) names; same = side-by-side (byte "a" + k) names (and_parts lettered ordered e).1 })

  -- and nowhere where it is none
  pub at-no-letter : (b : ℕ) → isLower b ≡ false → Exactly names b 0 0
  at-no-letter b h = record { forward = omega arith; inside = omega arith; same = sym (none-begins isLower b names begin-lower h) }

-- which of the letters a byte is
module _ (b : ℕ) (h : isLower b ≡ true) where
  pub letter-least : byte "a" ≤ b
  letter-least = leb-true (byte "a") b (and_parts (leb (byte "a") b) (leb b (byte "z")) h).0

  pub letter-most : b ≤ byte "z"
  letter-most = leb-true b (byte "z") (and_parts (leb (byte "a") b) (leb b (byte "z")) h).1

-- as the lookup goes: it has the byte c, which is b
module _ (starts : List ℕ) (b c : ℕ) (same : c ≡ b) where
  pub goes-letter : isLower c ≡ true → GoesTo starts b (get_or starts (c - byte "a") 0) (get_or starts (c - byte "a" + 1) 0)
  goes-letter h names order begin =
      let least = letter-least c h in
      let most = letter-most c h in
      let z : byte "a" + (c - byte "a") ≡ b = omega arith in
      rw (begin, sym z) (at-letter names order (c - byte "a") (omega arith))

  pub goes-nowhere : isLower c ≡ false → GoesTo starts b 0 0
  goes-nowhere h names order begin = rw (sym same) (at-no-letter names order c h)
