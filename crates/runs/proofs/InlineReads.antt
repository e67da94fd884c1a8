-- Inline reading of two texts that are alike but for a private body, from a byte before its opening on: both find raw HTML or neither does, and what is left of
-- them corresponds. An opening or a closer holds no `<` behind its first byte, so it ends before the private opening or begins behind it.
use Rattle.std.proofs.Common.{◌≡◌, refl, sym, ◌∙◌, ap, Bool, true, false, ◌&&◌, not, List, [], ◌∷◌, ◌++◌, ℕ, suc, ◌≤◌, arith, eqb, length, length-drop}
use Rattle.std.proofs.lemmas.Bool.{and_parts}
use borrow.Author.Tests.{not-true}
use Rattle.lexical.specs.Text.{byte, bytes}
use Rattle.lexical.specs.Name.{all, cdataPrefix}
use Rattle.lexical.proofs.Cases.{split}
use Rattle.rules.specs.Search.{choose, begins, Left, left, nothing, throughFirst}
use Rattle.rules.specs.Tag.{inlineTags}
use Rattle.rules.specs.Inline.{comment, instruction, declaration, htmlTag, Prefix, whole, letters, prefix, Read, takes, lacks, carrying, cdataBody, rawHtml, keeping, readInline}
use Rattle.rules.specs.Private.{Form, closer, comment as Comment, instruction as Instruction, declaration as Declaration, cdata as Cdata}
use Rattle.rules.specs.declared.Rules.{Rules}
use Rattle.rules.proofs.Comment.{comment-is}
use Rattle.runs.proofs.Alike.{AtMost, Alike, Pair, ahead, behind, Lefts, lefts, nothings, View, at-end, at-opening, at-byte, angleless, view, same-lefts, begins-same, drop-pair}
use Rattle.runs.proofs.Tags.{choose-lefts, or-lefts, marked-lefts, open-lefts, close-lefts}

-- ---- closers
pub most-trans : (q s : List ℕ) (a : Left) → length s ≤ length q → AtMost s a → AtMost q a
most-trans q s (left r) l h = omega arith
most-trans q s nothing l h = tt

-- what is left behind a closer is no more than there was
pub through-most : (p s : List ℕ) → AtMost s (throughFirst p s)
unfolding throughFirst
through-most p [] = tt
through-most p (x ∷ s) =
    split (begins p (x ∷ s)) (λ h. rw h (omega (arith, length-drop (length p) (x ∷ s)))) (λ h. rw h (most-trans (x ∷ s) s (throughFirst p s) (omega arith) (through-most p s)))

pub closer-angleless : (g : Form) → angleless (closer g) ≡ true
unfolding all
closer-angleless Comment = refl
closer-angleless Instruction = refl
closer-angleless (Declaration l h) = refl
closer-angleless Cdata = refl

pub through-lefts : {w₁ w₂ q : List ℕ} → Alike w₁ w₂ q → (g : Form) {s t : List ℕ} → Pair w₁ w₂ q s t → Lefts w₁ w₂ q (throughFirst (closer g) s) (throughFirst (closer g) t)
unfolding throughFirst
through-lefts {w₁} {w₂} alike g (ahead []) = rw (alike.through g) (same-lefts (throughFirst (closer g) (byte "<" ∷ w₂)) (alike.through-most g))
through-lefts {w₁} {w₂} {q} alike g (ahead (x ∷ u)) =
    let r : Pair w₁ w₂ q ((x ∷ u) ++ (byte "<" ∷ w₁)) ((x ∷ u) ++ (byte "<" ∷ w₂)) = ahead (x ∷ u) in
    choose-lefts (begins (closer g) (x ∷ (u ++ (byte "<" ∷ w₁)))) (begins (closer g) (x ∷ (u ++ (byte "<" ∷ w₂)))) (begins-same (closer g) (closer-angleless g) r)
    (λ h. lefts (drop-pair (closer g) (closer-angleless g) h r)) (λ h. through-lefts alike g (ahead u))
through-lefts {q = q} alike g (behind s l) = same-lefts (throughFirst (closer g) s) (most-trans q s (throughFirst (closer g) s) l (through-most (closer g) s))

-- ---- the forms, from a byte before the private opening on
module _ {w₁ w₂ q : List ℕ} (alike : Alike w₁ w₂ q) (x : ℕ) where
  comment-lefts : {s t : List ℕ} → Pair w₁ w₂ q s t → Lefts w₁ w₂ q (comment (x ∷ s)) (comment (x ∷ t))
  unfolding all
  comment-lefts {s} {t} r =
      rw (comment-is (x ∷ s), comment-is (x ∷ t))
      (choose-lefts (eqb x (byte "<") && begins (bytes "!--") s) (eqb x (byte "<") && begins (bytes "!--") t) (ap (λ (b : Bool). eqb x (byte "<") && b) (begins-same (bytes "!--") refl r))
      (λ h. through-lefts alike Comment (drop-pair (bytes "!") refl (shorter s (and_parts (eqb x (byte "<")) (begins (bytes "!--") s) h).1) r)) (λ h. nothings))
    where
      shorter : (s : List ℕ) → begins (bytes "!--") s ≡ true → begins (bytes "!") s ≡ true
      shorter [] h = h
      shorter (y ∷ ys) h = rw (and_parts (eqb y (byte "!")) (begins (bytes "--") ys) h).0

  instruction-lefts : {s t : List ℕ} → Pair w₁ w₂ q s t → Lefts w₁ w₂ q (instruction (x ∷ s)) (instruction (x ∷ t))
  unfolding instruction all
  instruction-lefts {s} {t} r =
      choose-lefts (eqb x (byte "<") && begins (bytes "?") s) (eqb x (byte "<") && begins (bytes "?") t) (ap (λ (b : Bool). eqb x (byte "<") && b) (begins-same (bytes "?") refl r))
      (λ h. through-lefts alike Instruction (drop-pair (bytes "?") refl (and_parts (eqb x (byte "<")) (begins (bytes "?") s) h).1 r)) (λ h. nothings)

  declaration-lefts : {s t : List ℕ} → Pair w₁ w₂ q s t → Lefts w₁ w₂ q (declaration (x ∷ s)) (declaration (x ∷ t))
  unfolding declaration
  declaration-lefts r = marked-lefts x (byte "!") refl (throughFirst (bytes ">")) (λ s t k. through-lefts alike (Declaration (byte "A") refl) k) r

  tag-lefts : (ρ : Rules) {s t : List ℕ} → Pair w₁ w₂ q s t → Lefts w₁ w₂ q (htmlTag ρ (x ∷ s)) (htmlTag ρ (x ∷ t))
  unfolding htmlTag
  tag-lefts ρ r =
      or-lefts (open-lefts alike (inlineTags ρ) x r)
      (or-lefts (close-lefts x r) (or-lefts (comment-lefts r) (or-lefts (instruction-lefts r) (declaration-lefts r))))

-- ---- CDATA sections
data Prefixes (w₁ w₂ q : List ℕ) : Prefix → Prefix → Type 0 where
  wholes : {s t : List ℕ} → Pair w₁ w₂ q s t → Prefixes w₁ w₂ q (whole s) (whole t)
  both-letters : (k : ℕ) → Prefixes w₁ w₂ q (letters k) (letters k)

prefixes : {w₁ w₂ q : List ℕ} (k : ℕ) (p : List ℕ) → angleless p ≡ true → {s t : List ℕ} → Pair w₁ w₂ q s t → Prefixes w₁ w₂ q (prefix k p s) (prefix k p t)
unfolding prefix all
prefixes k [] e r = wholes r
prefixes {w₁} {w₂} {q} k (c ∷ p) e r = by-view (λ k' s t i. prefixes k' p (and_parts (not (eqb (byte "<") c)) (angleless p) e).1 i) (view r)
  where
    by-view : ((k : ℕ) (s t : List ℕ) → Pair w₁ w₂ q s t → Prefixes w₁ w₂ q (prefix k p s) (prefix k p t)) → {s t : List ℕ} → View w₁ w₂ q s t → Prefixes w₁ w₂ q (prefix k (c ∷ p) s) (prefix k (c ∷ p) t)
    by-view ih at-end = both-letters k
    by-view ih at-opening = rw (not-true (eqb (byte "<") c) (and_parts (not (eqb (byte "<") c)) (angleless p) e).0) (both-letters k)
    by-view ih (at-byte y {s} {t} i) = split (eqb y c) (λ h. rw h (ih (suc k) s t i)) (λ h. rw h (both-letters k))

-- what reading gives of the one and of the other
pub data Reads (w₁ w₂ q : List ℕ) : Read → Read → Type 0 where
  both-take : {s t : List ℕ} (k : ℕ) → Pair w₁ w₂ q s t → Reads w₁ w₂ q (takes s k) (takes t k)
  both-lack : (k : ℕ) → Reads w₁ w₂ q (lacks k) (lacks k)

carried : {w₁ w₂ q : List ℕ} (k : ℕ) {a b : Left} → Lefts w₁ w₂ q a b → Reads w₁ w₂ q (carrying k a) (carrying k b)
carried k (lefts r) = both-take k r
carried k nothings = both-lack k

kept : {w₁ w₂ q : List ℕ} (k : ℕ) {a b : Read} → Reads w₁ w₂ q a b → Reads w₁ w₂ q (keeping k a) (keeping k b)
kept k (both-take c r) = both-take k r
kept k (both-lack c) = both-lack k

either-kept : {w₁ w₂ q : List ℕ} (t2 : Bool) {a b : Read} → Reads w₁ w₂ q a b → Reads w₁ w₂ q (choose t2 (λ _. a) (λ _. keeping 0 a)) (choose t2 (λ _. b) (λ _. keeping 0 b))
either-kept true r = r
either-kept false r = kept 0 r

module _ {w₁ w₂ q : List ℕ} (alike : Alike w₁ w₂ q) (ρ : Rules) (x : ℕ) where
  cdata-reads : {a b : Prefix} → Prefixes w₁ w₂ q a b → Reads w₁ w₂ q (cdataBody a) (cdataBody b)
  cdata-reads (wholes r) = carried 0 (through-lefts alike Cdata r)
  cdata-reads (both-letters k) = both-lack k

  prefix-angleless : angleless cdataPrefix ≡ true
  unfolding all cdataPrefix
  prefix-angleless = refl

  raw-reads : {s t : List ℕ} → Pair w₁ w₂ q s t → Reads w₁ w₂ q (rawHtml ρ 0 (x ∷ s)) (rawHtml ρ 0 (x ∷ t))
  unfolding rawHtml all
  raw-reads {s} {t} r =
      let e = begins-same (bytes "![") refl r in
      split (eqb x (byte "<") && begins (bytes "![") s)
      (λ h.
      let k : (eqb x (byte "<") && begins (bytes "![") t) ≡ true = sym (ap (λ (b : Bool). eqb x (byte "<") && b) e) ∙ h in
      rw (h, k) (cdata-reads (prefixes 0 cdataPrefix prefix-angleless (drop-pair (bytes "![") refl (and_parts (eqb x (byte "<")) (begins (bytes "![") s) h).1 r))))
      (λ h.
      let k : (eqb x (byte "<") && begins (bytes "![") t) ≡ false = sym (ap (λ (b : Bool). eqb x (byte "<") && b) e) ∙ h in
      rw (h, k) (carried 0 (tag-lefts alike x ρ r)))

  -- with carry 0
  pub inline-reads : {s t : List ℕ} → Pair w₁ w₂ q s t → Reads w₁ w₂ q (readInline ρ 0 (x ∷ s)) (readInline ρ 0 (x ∷ t))
  unfolding readInline
  inline-reads r = either-kept ρ.t2 (raw-reads r)
