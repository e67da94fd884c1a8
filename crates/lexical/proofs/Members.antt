-- What a name that is a member of a list is, letter case ignored, each by one computed test over the list: a raw name is letters, at most eight; one of GitHub's
-- tag filter has three bytes or more; and a name of any list begins with a letter.
use Rattle.std.proofs.Common.{◌≡◌, ℕ, ◌≤◌, Bool, true, false, ◌&&◌, leb, List, [], ◌∷◌, map, length, refl, ap, ◌∙◌, leb-true}
use Rattle.std.proofs.lemmas.Bool.{and_parts}
use Rattle.std.proofs.Math.Bool.{or-true}
use lib.ListN.{length-map}
use Rattle.lexical.specs.Text.{byte, first}
use Rattle.lexical.specs.Byte.{within, isLetter, lower}
use Rattle.lexical.specs.Name.{all, blockNames, rawNames, disallowedNames, sameBytes, isMember, isBlockName, isRawName, isDisallowedName}
use Rattle.lexical.proofs.Cases.{split, clash}
use Rattle.lexical.proofs.Same.{same-equal}
use Rattle.lexical.proofs.Names.{sound, raw-sound, block-sound, disallowed-sound, by-letter}
use Rattle.lexical.proofs.Letters.{isLower, begin-lower}

-- what every name of a list passes, a member passes
pub member-all : (f : List ℕ → Bool) (n : List ℕ) (names : List (List ℕ)) → isMember n names ≡ true → all f names ≡ true → f n ≡ true
unfolding isMember all
member-all f n [] h a = clash false h refl
member-all f n (x ∷ xs) h a =
    split (sameBytes n x)
    (λ e. ap f (same-equal n x e) ∙ (and_parts (f x) (all f xs) a).0)
    (λ e. member-all f n xs (rw e at h) (and_parts (f x) (all f xs) a).1)

-- letters, at most eight
abbrev isShort : List ℕ → Bool
isShort n = all isLetter n && leb (length n) 8

short : all isShort rawNames ≡ true
unfolding all rawNames
short = refl

lower-short : (n : List ℕ) → isRawName n ≡ true → isShort (map lower n) ≡ true
unfolding isRawName
lower-short n h = member-all isShort (map lower n) rawNames h short

letter-of : (x : ℕ) → isLetter (lower x) ≡ true → isLetter x ≡ true
letter-of x h = split (within (byte "A") (byte "Z") x) (λ a. simp a) (λ a. simp a (simp a at h))

letters-of : (n : List ℕ) → all isLetter (map lower n) ≡ true → all isLetter n ≡ true
unfolding all
letters-of [] h = refl
letters-of (x ∷ xs) h =
    rw (letter-of x (and_parts (isLetter (lower x)) (all isLetter (map lower xs)) h).0) (letters-of xs (and_parts (isLetter (lower x)) (all isLetter (map lower xs)) h).1)

pub raw-letters : (n : List ℕ) → isRawName n ≡ true → all isLetter n ≡ true
raw-letters n h = letters-of n (and_parts (all isLetter (map lower n)) (leb (length (map lower n)) 8) (lower-short n h)).0

pub raw-length : (n : List ℕ) → isRawName n ≡ true → length n ≤ 8
raw-length n h =
    rw (length-map n lower) at (leb-true (length (map lower n)) 8 (and_parts (all isLetter (map lower n)) (leb (length (map lower n)) 8) (lower-short n h)).1)

-- three bytes or more
some : all (λ n. leb 3 (length n)) disallowedNames ≡ true
unfolding all disallowedNames
some = refl

pub disallowed-length : (n : List ℕ) → isDisallowedName n ≡ true → 3 ≤ length n
unfolding isDisallowedName
disallowed-length n h = rw (length-map n lower) at (leb-true 3 (length (map lower n)) (member-all (λ m. leb 3 (length m)) (map lower n) disallowedNames h some))

-- names of all lists begin with a letter
begins-letter : (n : List ℕ) → isLower (first (map lower n)) ≡ true → isLetter (first n) ≡ true
begins-letter [] h = cc
begins-letter (x ∷ xs) h = letter-of x (rw h (or-true (within (byte "A") (byte "Z") (lower x))))

member-letter : (n : List ℕ) (names : List (List ℕ)) → sound names ≡ true → isMember (map lower n) names ≡ true → isLetter (first n) ≡ true
member-letter n names s h = begins-letter n (member-all (λ m. isLower (first m)) (map lower n) names h (begin-lower names (by-letter names s)))

pub raw-first : (n : List ℕ) → isRawName n ≡ true → isLetter (first n) ≡ true
unfolding isRawName
raw-first n h = member-letter n rawNames raw-sound h

pub block-first : (n : List ℕ) → isBlockName n ≡ true → isLetter (first n) ≡ true
unfolding isBlockName
block-first n h = member-letter n blockNames block-sound h

pub disallowed-first : (n : List ℕ) → isDisallowedName n ≡ true → isLetter (first n) ≡ true
unfolding isDisallowedName
disallowed-first n h = member-letter n disallowedNames disallowed-sound h
