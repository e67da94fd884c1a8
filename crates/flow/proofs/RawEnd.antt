-- A raw end tag by its letters. The recursion takes letters, at most eight, and asks at `>` whether they are a raw name; a raw name has at most eight bytes,
-- all letters, so that this is the same as asking of the whole tag name whether it is one and `>` follows.
use Rattle.std.proofs.Common.{◌≡◌, refl, sym, ◌∙◌, ap, Bool, true, false, ◌&&◌, List, [], ◌∷◌, ℕ, zero, suc, ◌+◌, ◌-◌, ◌<◌, ◌≤◌, arith, eqb, length, get_or, take, drop, drop-drop, get_or-take, get_or-drop, length-take-le, eqb-true}
use Rattle.std.proofs.lemmas.List.{drop_more}
use Rattle.std.proofs.lemmas.Bool.{or_parts}
use Rattle.std.proofs.Math.Bool.{and-false, and-true}
use Rattle.lexical.proofs.Run.{run-length}
use borrow.Author.Tests.{not-true}
use Rattle.lexical.specs.Text.{byte, bytes, first, run}
use Rattle.lexical.specs.Byte.{isLetter, isTagNameByte, isLineEndingByte}
use Rattle.lexical.specs.Line.{isInner}
use Rattle.lexical.specs.Name.{isRawName}
use Rattle.lexical.proofs.Cases.{split, clash, letter-byte}
use Rattle.lexical.proofs.Members.{raw-letters, raw-length}
use Rattle.lexical.proofs.Table.{all-at}
use Rattle.rules.specs.Search.{begins}
use Rattle.rules.proofs.Past.{firstFrom, first-behind}
use Rattle.rules.specs.Block.{nameOf, afterName, isRawEnd}
use Rattle.flow.specs.ContinuationMachine.{rawEndOf}

-- ---- the recursion at an index of a line
module _ (line : List ℕ) (start at : ℕ) (order : start ≤ at) where
  abbrev t : List ℕ
  t = drop start line

  abbrev m : ℕ
  m = at - start

  at-drop : drop m t ≡ drop at line
  at-drop = let e : start + m ≡ at = omega arith in drop-drop m start line ∙ ap (λ (i : ℕ). drop i line) e

  -- the byte there, or the word for none
  module _ (x : ℕ) (e : first (drop at line) ≡ x) where
    first-here : first (drop m t) ≡ x
    first-here = ap first at-drop ∙ e

    pub at-mark : (n : ℕ) → x ≡ byte ">" → rawEndOf n t m ≡ isRawName (take m t)
    unfolding rawEndOf
    at-mark zero h = rw (first-here, h)
    at-mark (suc n) h = rw (first-here, h)

    module _ (other : eqb x (byte ">") ≡ false) where
      pub at-letter : (n : ℕ) → isLetter x ≡ true → 0 < n → rawEndOf n t m ≡ rawEndOf (n - 1) t ((at + 1) - start)
      unfolding rawEndOf
      at-letter zero l p = absurd (omega arith)
      at-letter (suc n) l p =
          let a : suc m ≡ (at + 1) - start = omega arith in
          let b : suc n - 1 ≡ n = omega arith in
          rw (first-here, other, l, b, a)

      pub at-last : (n : ℕ) → n ≤ 0 → rawEndOf n t m ≡ false
      unfolding rawEndOf
      at-last zero p = rw (first-here, other)
      at-last (suc n) p = absurd (omega arith)

      pub at-other : (n : ℕ) → isLetter x ≡ false → rawEndOf n t m ≡ false
      unfolding rawEndOf
      at-other zero l = rw (first-here, other)
      at-other (suc n) l = rw (first-here, other, l)

-- ---- the letters so far are a tag name's, and n + m is eight
abbrev whole : List ℕ → Bool
whole t = isRawName (nameOf t) && begins (bytes ">") (afterName t)

-- a raw name has no byte that is no letter
no-raw : (n : List ℕ) (i : ℕ) → i < length n → isLetter (get_or n i 0) ≡ false → isRawName n ≡ false
no-raw n i h e = split (isRawName n) (λ r. clash (isLetter (get_or n i 0)) (all-at 0 isLetter n (raw-letters n r) i h) e) (λ r. r)

-- and no more than eight
no-long : (n : List ℕ) → 8 < length n → isRawName n ≡ false
no-long n h = split (isRawName n) (λ r. absurd (omega (arith, raw-length n r))) (λ r. r)

module _ (t : List ℕ) where
  abbrev r : ℕ
  r = run isTagNameByte t

  -- behind its first m bytes, all of a tag name, t goes on as u
  pub record Goes (m : ℕ) (u : List ℕ) : Type 0 where
    pub rest : drop m t ≡ u
    pub name : r ≡ m + run isTagNameByte u

  -- where the name ends after m bytes
  stopped : (m : ℕ) (u : List ℕ) → Goes m u → run isTagNameByte u ≡ 0 → whole t ≡ (isRawName (take m t) && begins (bytes ">") u)
  stopped m u g z =
      let e : r ≡ m = omega (arith, g.name) in
      ap (λ (n : ℕ). isRawName (take n t) && begins (bytes ">") (drop n t)) e ∙ ap (λ (v : List ℕ). isRawName (take m t) && begins (bytes ">") v) g.rest

  -- where it does not, it has the next byte
  next-byte : (m y : ℕ) (ys : List ℕ) → Goes m (y ∷ ys) → m < r → get_or (nameOf t) m 0 ≡ y
  next-byte m y ys g h =
      let z : m + 0 ≡ m = omega arith in
      get_or-take r t m 0 h ∙ sym (ap (λ (i : ℕ). get_or t i 0) z) ∙ sym (get_or-drop m t 0 0) ∙ ap (λ (v : List ℕ). get_or v 0 0) g.rest

  name-length : length (nameOf t) ≡ r
  name-length = length-take-le r t (run-length isTagNameByte t)

  goes-on : (m y : ℕ) (ys : List ℕ) → Goes m (y ∷ ys) → isTagNameByte y ≡ true → Goes (suc m) ys
  unfolding run
  goes-on m y ys g h =
      let e : r ≡ m + suc (run isTagNameByte ys) = rw h at g.name in
      let one : m + 1 ≡ suc m = omega arith in
      record { rest = sym (ap (λ (i : ℕ). drop i t) one) ∙ sym (drop-drop 1 m t) ∙ ap (drop 1) g.rest; name = omega arith }

  run-none : (y : ℕ) (ys : List ℕ) → isTagNameByte y ≡ false → run isTagNameByte (y ∷ ys) ≡ 0
  unfolding run
  run-none y ys h = rw h

  -- longer than m bytes
  reaches : (m y : ℕ) (ys : List ℕ) → Goes m (y ∷ ys) → isTagNameByte y ≡ true → m < r
  reaches m y ys g h = omega (arith, (goes-on m y ys g h).name)

  -- what the recursion says at a byte
  says : (n m y : ℕ) (ys : List ℕ) → drop m t ≡ y ∷ ys → eqb y (byte ">") ≡ true → rawEndOf n t m ≡ isRawName (take m t)
  unfolding rawEndOf
  says zero m y ys e h = rw (e, h)
  says (suc n) m y ys e h = rw (e, h)

  denies : (n m y : ℕ) (ys : List ℕ) → drop m t ≡ y ∷ ys → eqb y (byte ">") ≡ false → isLetter y ≡ false → rawEndOf n t m ≡ false
  unfolding rawEndOf
  denies zero m y ys e h l = rw (e, h)
  denies (suc n) m y ys e h l = rw (e, h, l)

  asks : (n m y : ℕ) (ys : List ℕ) → drop m t ≡ y ∷ ys → eqb y (byte ">") ≡ false → isLetter y ≡ true → rawEndOf (suc n) t m ≡ rawEndOf n t (suc m)
  unfolding rawEndOf
  asks n m y ys e h l = rw (e, h, l)

  last : (m y : ℕ) (ys : List ℕ) → drop m t ≡ y ∷ ys → eqb y (byte ">") ≡ false → rawEndOf zero t m ≡ false
  unfolding rawEndOf
  last m y ys e h = rw (e, h)

  ended : (n m : ℕ) → drop m t ≡ [] → rawEndOf n t m ≡ false
  unfolding rawEndOf
  ended zero m e = rw e
  ended (suc n) m e = rw e

  not-raw : isRawName (nameOf t) ≡ false → whole t ≡ false
  not-raw h = rw h

  nil-run : run isTagNameByte [] ≡ 0
  unfolding run
  nil-run = refl

  -- at `>` the name is over
  mark-run : (y : ℕ) → eqb y (byte ">") ≡ true → isTagNameByte y ≡ false
  mark-run y e = rw (eqb-true y (byte ">") e)

  at-end-mark : (n m y : ℕ) (ys : List ℕ) → Goes m (y ∷ ys) → eqb y (byte ">") ≡ true → rawEndOf n t m ≡ whole t
  at-end-mark n m y ys g e = says n m y ys g.rest e ∙ sym (stopped m (y ∷ ys) g (run-none y ys (mark-run y e)) ∙ rw e (and-true (isRawName (take m t))))

  -- a byte that is neither `>` nor a letter
  other-is : (m y : ℕ) (ys : List ℕ) → Goes m (y ∷ ys) → eqb y (byte ">") ≡ false → isLetter y ≡ false → whole t ≡ false
  other-is m y ys g e l =
      split (isTagNameByte y)
      (λ b. not-raw (no-raw (nameOf t) m (omega (arith, reaches m y ys g b, name-length)) (ap isLetter (next-byte m y ys g (reaches m y ys g b)) ∙ l)))
      (λ b. stopped m (y ∷ ys) g (run-none y ys b) ∙ rw e (and-false (isRawName (take m t))))

  -- n letters more are allowed behind the m that were read
  rawEnd-is : (n m : ℕ) (u : List ℕ) → n + m ≡ 8 → Goes m u → rawEndOf n t m ≡ whole t
  rawEnd-is n m [] k g = ended n m g.rest ∙ sym (stopped m [] g nil-run ∙ and-false (isRawName (take m t)))
  rawEnd-is zero m (y ∷ ys) k g =
      split (eqb y (byte ">")) (λ e. at-end-mark zero m y ys g e)
      (λ e. split (isLetter y)
      (λ l. last m y ys g.rest e ∙ sym (not-raw (no-long (nameOf t) (omega (arith, reaches m y ys g (letter-byte y l), name-length)))))
      (λ l. last m y ys g.rest e ∙ sym (other-is m y ys g e l)))
  rawEnd-is (suc n) m (y ∷ ys) k g =
      split (eqb y (byte ">")) (λ e. at-end-mark (suc n) m y ys g e)
      (λ e. split (isLetter y)
      (λ l. asks n m y ys g.rest e l ∙ rawEnd-is n (suc m) ys (omega arith) (goes-on m y ys g (letter-byte y l)))
      (λ l. denies (suc n) m y ys g.rest e l ∙ sym (other-is m y ys g e l)))

  pub raw-end-is : rawEndOf 8 t 0 ≡ whole t
  raw-end-is = rawEnd-is 8 0 t refl (record { rest = refl; name = omega arith })

-- ---- behind `</` at an index of a line
pub raw-at : (line : List ℕ) (i : ℕ) → i < length line → get_or line i 0 ≡ byte "<" → drop (i + 1) line ≡ byte "/" ∷ drop (i + 1 + 1) line
    → rawEndOf 8 (drop (i + 2) line) (i + 2 - (i + 2)) ≡ isRawEnd (drop i line)
raw-at line i h a b =
    let z : i + 2 - (i + 2) ≡ 0 = omega arith in
    let k : i + 2 ≡ i + 1 + 1 = omega arith in
    let e : whole (drop (i + 1 + 1) line) ≡ isRawEnd (drop i line) = rw (drop_more line i 0 h, a, b) in
    ap (rawEndOf 8 (drop (i + 2) line)) z ∙ ap (λ (n : ℕ). rawEndOf 8 (drop n line) 0) k ∙ raw-end-is (drop (i + 1 + 1) line) ∙ e

-- ---- no raw end tag begins at another byte than `<`
no-tag : (x : ℕ) (xs : List ℕ) → isInner (byte "<") x ≡ true → isRawEnd (x ∷ xs) ≡ false
no-tag x xs h = rw (or_parts (eqb x (byte "<")) (isLineEndingByte x) (not-true _ h)).0

pub raw-end-behind : (line : List ℕ) (i j : ℕ) → j ≡ i + run (isInner (byte "<")) (drop i line) → firstFrom isRawEnd line i ≡ firstFrom isRawEnd line j
raw-end-behind = first-behind (isInner (byte "<")) isRawEnd no-tag
