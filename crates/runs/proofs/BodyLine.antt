-- Where a stretch of bytes without a line ending stands among the lines of a bulletin: within one line, whose other bytes, like all other lines, do not depend
-- on it. So the lines of two bulletins that differ in a private body are the same but for one.
use Rattle.std.proofs.Common.{◌≡◌, refl, sym, ◌∙◌, ap, Bool, true, false, not, List, [], ◌∷◌, ◌++◌, ℕ, suc, ◌+◌, ◌<◌, arith, eqb, length}
use Rattle.std.proofs.lemmas.Bool.{and_parts, or_parts}
use borrow.Author.Tests.{not-true}
use Rattle.lexical.specs.Text.{byte, bytes}
use Rattle.lexical.specs.Byte.{isLetter, isLineEndingByte}
use Rattle.lexical.specs.Name.{all}
use Rattle.lexical.proofs.Cases.{clash, excluded}
use Rattle.rules.specs.Search.{choose}
use Rattle.rules.specs.Lines.{Line, line, push, cutLines, flagged, linesOf}
use Rattle.rules.specs.Private.{isPrivate, Form, around, closer, InlineSwap, comment as Comment, instruction as Instruction, declaration as Declaration, cdata as Cdata}
use Rattle.rules.proofs.LineLaws.{sizes}
use Rattle.runs.proofs.Body.{inside, around-inside, all-more, all-and}

-- no byte of a line ending
abbrev isInner : ℕ → Bool
isInner b = not (isLineEndingByte b)

all-inner : (a : List ℕ) → all isPrivate a ≡ true → all isInner a ≡ true
all-inner a h = all-more isPrivate isInner (λ x p. rw (excluded isPrivate (byte "\n") x refl p, excluded isPrivate (byte "\r") x refl p)) a h

around-inner : (f : Form) (body : List ℕ) → all isPrivate body ≡ true → all isInner (around f body) ≡ true
unfolding all
around-inner Comment body h = all-and isInner body (closer Comment) (all-inner body h) refl
around-inner Instruction body h = all-and isInner body (closer Instruction) (all-inner body h) refl
around-inner (Declaration l e) body h =
    rw (excluded isLetter (byte "\n") l refl e, excluded isLetter (byte "\r") l refl e) (all-and isInner body (bytes ">") (all-inner body h) refl)
around-inner Cdata body h = all-and isInner body (closer Cdata) (all-inner body h) refl

pub around-some : (f : Form) (body : List ℕ) → 0 < length (around f body)
around-some Comment body = omega arith
around-some Instruction body = omega arith
around-some (Declaration letter h) body = omega arith
around-some Cdata body = omega arith

-- ---- there is always a first line, which the ending leads to
record Some (ending : List ℕ) (ls : List Line) : Type 0 where
  head : Line
  tail : List Line
  lead-is : head.lead ≡ ending
  is : ls ≡ head ∷ tail

some-choose : (b : Bool) (e : List ℕ) (x y : List Line) → Some e x → Some e y → Some e (choose b (λ _. x) (λ _. y))
some-choose true e x y s t = s
some-choose false e x y s t = t

some-push : (x : ℕ) (e : List ℕ) (ls : List Line) → Some e ls → Some e (push x ls)
some-push x e ls s = rw s.is record { head = line s.head.flag s.head.lead (x ∷ s.head.content); tail = s.tail; lead-is = s.lead-is; is = refl }

some-cons : (e : List ℕ) (ls : List Line) → Some e (line 0 e [] ∷ ls)
some-cons e ls = record { head = line 0 e []; tail = ls; lead-is = refl; is = refl }

some : (s ending : List ℕ) → Some ending (cutLines false ending s)
unfolding cutLines
some [] ending = some-cons ending []
some (x ∷ xs) ending =
    some-choose (eqb x (byte "\n")) ending _ _ (some-cons ending _)
    (some-choose (eqb x (byte "\r")) ending _ _ (some-cons ending _) (some-push x ending (cutLines false ending xs) (some xs ending)))

-- a stretch of inner bytes in front
module _ (ending after : List ℕ) where
  abbrev following : Line
  following = (some after ending).head

  abbrev Stretch : Bool → List ℕ → Type 0
  Stretch cr m = cutLines cr ending (m ++ after) ≡ line following.flag following.lead (m ++ following.content) ∷ (some after ending).tail

  stretch : (m : List ℕ) → all isInner m ≡ true → Stretch false m
  unfolding cutLines all
  stretch [] h = (some after ending).is
  stretch (x ∷ xs) h =
      let o = not-true (isLineEndingByte x) (and_parts (isInner x) (all isInner xs) h).0 in
      rw ((or_parts (eqb x (byte "\n")) (eqb x (byte "\r")) o).0, (or_parts (eqb x (byte "\n")) (eqb x (byte "\r")) o).1, stretch xs (and_parts (isInner x) (all isInner xs) h).1)

  stretch-cr : (cr : Bool) (m : List ℕ) → 0 < length m → all isInner m ≡ true → Stretch cr m
  unfolding cutLines all
  stretch-cr cr [] pos h = absurd (omega arith)
  stretch-cr cr (x ∷ xs) pos h =
      let o = not-true (isLineEndingByte x) (and_parts (isInner x) (all isInner xs) h).0 in
      rw ((or_parts (eqb x (byte "\n")) (eqb x (byte "\r")) o).0, (or_parts (eqb x (byte "\n")) (eqb x (byte "\r")) o).1, stretch xs (and_parts (isInner x) (all isInner xs) h).1)

-- ---- the lines g m of a text in which m stands behind n bytes: m is part of one line, and the rest does not depend on it
record Place (n : ℕ) (g : List ℕ → List Line) : Type 0 where
  earlier : List Line
  flag : ℕ
  lead : List ℕ
  before : List ℕ
  after : List ℕ
  later : List Line
  position : sizes earlier + length lead + length before ≡ n
  is : (m : List ℕ) → 0 < length m → all isInner m ≡ true → g m ≡ earlier ++ (line flag lead (before ++ (m ++ after)) ∷ later)

place-choose : (b : Bool) (n : ℕ) (g h : List ℕ → List Line) → (b ≡ true → Place n g) → (b ≡ false → Place n h) → Place n (λ m. choose b (λ _. g m) (λ _. h m))
place-choose true n g h p q = p refl
place-choose false n g h p q = q refl

place-cons : (l : Line) (n k : ℕ) (g : List ℕ → List Line) → length l.lead + length l.content + k ≡ n → Place k g → Place n (λ m. l ∷ g m)
place-cons l n k g e p =
    record {
      earlier = l ∷ p.earlier;
      flag = p.flag;
      lead = p.lead;
      before = p.before;
      after = p.after;
      later = p.later;
      position = omega (arith, p.position);
      is = λ m s h. ap (λ (ls : List Line). l ∷ ls) (p.is m s h);
    }

place-push : (x n : ℕ) (g : List ℕ → List Line) → Place n g → Place (suc n) (λ m. push x (g m))
place-push x n g p = by-earlier p.earlier p.position p.is
  where
    by-earlier : (e : List Line) → sizes e + length p.lead + length p.before ≡ n
        → ((m : List ℕ) → 0 < length m → all isInner m ≡ true → g m ≡ e ++ (line p.flag p.lead (p.before ++ (m ++ p.after)) ∷ p.later)) → Place (suc n) (λ m. push x (g m))
    by-earlier [] k e =
        record {
          earlier = [];
          flag = p.flag;
          lead = p.lead;
          before = x ∷ p.before;
          after = p.after;
          later = p.later;
          position = omega arith;
          is = λ m s h. ap (push x) (e m s h);
        }
    by-earlier (l ∷ ls) k e =
        record {
          earlier = line l.flag l.lead (x ∷ l.content) ∷ ls;
          flag = p.flag;
          lead = p.lead;
          before = p.before;
          after = p.after;
          later = p.later;
          position = omega arith;
          is = λ m s h. ap (push x) (e m s h);
        }

place-at : (n k : ℕ) (g : List ℕ → List Line) → n ≡ k → Place n g → Place k g
place-at n k g e p = rw (sym e) p

place : (before after : List ℕ) (cr : Bool) (ending : List ℕ) → (cr ≡ true → length ending ≡ 1) → Place (length ending + length before) (λ m. cutLines cr ending (before ++ (m ++ after)))
unfolding cutLines
place [] after cr ending one =
    let n = some after ending in
    record {
      earlier = [];
      flag = n.head.flag;
      lead = n.head.lead;
      before = [];
      after = n.head.content;
      later = n.tail;
      position = omega (arith, ap length n.lead-is);
      is = λ m s h. stretch-cr ending after cr m s h;
    }
place (x ∷ xs) after cr ending one =
    let n = length ending + length (x ∷ xs) in
    let no : false ≡ true → length ending ≡ 1 = λ e. clash true refl (sym e) in
    place-choose (eqb x (byte "\n")) n _ _
    (λ _. place-choose cr n _ _
    (λ e. let k = one e in place-at (2 + length xs) n _ (omega arith) (place xs after false (bytes "\r\n") (λ e'. clash true refl (sym e'))))
    (λ _. place-cons (line 0 ending []) n (1 + length xs) _ (omega arith) (place xs after false (bytes "\n") (λ e'. clash true refl (sym e')))))
    (λ _. place-choose (eqb x (byte "\r")) n _ _
    (λ _. place-cons (line 0 ending []) n (1 + length xs) _ (omega arith) (place xs after true (bytes "\r") (λ e'. refl)))
    (λ _. place-at (suc (length ending + length xs)) n _ (omega arith) (place-push x (length ending + length xs) _ (place xs after false ending no))))

-- ---- flags do not depend on the bytes of a line
record Flagged (flags : List ℕ) (e : List Line) (f : ℕ) (lead : List ℕ) (later : List Line) : Type 0 where
  earlier : List Line
  flag : ℕ
  behind : List Line
  size : sizes earlier ≡ sizes e
  is : (c : List ℕ) → flagged flags (e ++ (line f lead c ∷ later)) ≡ earlier ++ (line flag lead c ∷ behind)

with-flags : (flags : List ℕ) (e : List Line) (f : ℕ) (lead : List ℕ) (later : List Line) → Flagged flags e f lead later
unfolding flagged
with-flags [] [] f lead later = record { earlier = []; flag = f; behind = later; size = refl; is = λ c. refl }
with-flags [] (l ∷ e) f lead later = record { earlier = l ∷ e; flag = f; behind = later; size = refl; is = λ c. refl }
with-flags (g ∷ gs) [] f lead later = record { earlier = []; flag = g; behind = flagged gs later; size = refl; is = λ c. refl }
with-flags (g ∷ gs) (l ∷ e) f lead later =
    let w = with-flags gs e f lead later in
    record {
      earlier = line g l.lead l.content ∷ w.earlier;
      flag = w.flag;
      behind = w.behind;
      size = ap (λ (n : ℕ). length l.lead + length l.content + n) w.size;
      is = λ c. ap (λ (ls : List Line). line g l.lead l.content ∷ ls) (w.is c);
    }

-- ---- the lines of two bulletins that differ in a private body
pub record BodyLine (flags : List ℕ) {one two : List ℕ} (d : InlineSwap one two) : Type 0 where
  pub earlier : List Line
  pub flag : ℕ
  pub lead : List ℕ
  pub before : List ℕ
  pub after : List ℕ
  pub later : List Line
  pub position : sizes earlier + length lead + length before ≡ length d.before
  pub one-is : linesOf flags one ≡ earlier ++ (line flag lead (before ++ (byte "<" ∷ inside d.form d.body₁ after)) ∷ later)
  pub two-is : linesOf flags two ≡ earlier ++ (line flag lead (before ++ (byte "<" ∷ inside d.form d.body₂ after)) ∷ later)

pub body-line : (flags : List ℕ) {one two : List ℕ} (d : InlineSwap one two) → BodyLine flags d
unfolding linesOf
body-line flags d =
    let f = d.form in
    let p = place d.before d.after false [] (λ e. clash true refl (sym e)) in
    let w = with-flags flags p.earlier p.flag p.lead p.later in
    let on : (b : List ℕ) → all isPrivate b ≡ true → flagged flags (cutLines false [] (d.before ++ (around f b ++ d.after))) ≡ w.earlier ++ (line w.flag p.lead (p.before ++ (byte "<" ∷ inside f b p.after)) ∷ w.behind) =
    λ b h.
    ap (flagged flags) (p.is (around f b) (around-some f b) (around-inner f b h))
    ∙ w.is (p.before ++ (around f b ++ p.after))
    ∙ ap (λ (l : List ℕ). w.earlier ++ (line w.flag p.lead (p.before ++ l) ∷ w.behind)) (around-inside f b p.after) in
    record {
      earlier = w.earlier;
      flag = w.flag;
      lead = p.lead;
      before = p.before;
      after = p.after;
      later = w.behind;
      position = omega (arith, w.size, p.position);
      one-is = ap (λ (t : List ℕ). flagged flags (cutLines false [] t)) d.one-is ∙ on d.body₁ d.private₁;
      two-is = ap (λ (t : List ℕ). flagged flags (cutLines false [] t)) d.two-is ∙ on d.body₂ d.private₂;
    }
