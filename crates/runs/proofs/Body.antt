-- What is met across a private body with its opening and closer. No byte of the body can begin or end what is looked for, so the search goes over it; what it
-- comes to depends on the forms alone: the closer that is looked for ends with the body's own, or it is looked for behind the body.
use Rattle.std.proofs.Common.{◌≡◌, refl, sym, ◌∙◌, ap, Bool, true, false, ◌&&◌, not, List, [], ◌∷◌, ◌++◌, append_assoc, ℕ, arith, eqb, eqb-true}
use Rattle.std.proofs.lemmas.Bool.{and_parts}
use borrow.Author.Tests.{not-true}
use Rattle.lexical.specs.Text.{byte, bytes}
use Rattle.lexical.specs.Byte.{isLetter, isQuote}
use Rattle.lexical.specs.Name.{all}
use Rattle.lexical.proofs.Cases.{split, clash, excluded}
use Rattle.rules.specs.Search.{past, somewhere, Left, left, throughFirst}
use Rattle.rules.specs.Block.{isRawEnd}
use Rattle.rules.specs.Private.{isPrivate, Form, closer, around, comment as Comment, instruction as Instruction, declaration as Declaration, cdata as Cdata}
use Rattle.runs.proofs.Alike.{AtMost, Alike}
use Rattle.runs.proofs.Closes.{closesEven}
use Rattle.runs.proofs.InlineReads.{through-most}

-- ---- over bytes that are not looked for
abbrev pub other : ℕ → ℕ → Bool
other c b = not (eqb b c)

pub all-more : (f g : ℕ → Bool) → ((x : ℕ) → f x ≡ true → g x ≡ true) → (l : List ℕ) → all f l ≡ true → all g l ≡ true
unfolding all
all-more f g on [] h = refl
all-more f g on (x ∷ l) h = rw (on x (and_parts (f x) (all f l) h).0) (all-more f g on l (and_parts (f x) (all f l) h).1)

pub all-and : (g : ℕ → Bool) (a b : List ℕ) → all g a ≡ true → all g b ≡ true → all g (a ++ b) ≡ true
unfolding all
all-and g [] b h k = k
all-and g (x ∷ xs) b h k = rw (and_parts (g x) (all g xs) h).0 (all-and g xs b (and_parts (g x) (all g xs) h).1 k)

pub private-other : (c : ℕ) → isPrivate c ≡ false → (l : List ℕ) → all isPrivate l ≡ true → all (other c) l ≡ true
private-other c e l h = all-more isPrivate (other c) (λ x p. rw (excluded isPrivate c x e p)) l h

past-over : (f : ℕ → Bool) (l s : List ℕ) → all f l ≡ true → past f (l ++ s) ≡ past f s
unfolding past all
past-over f [] s h = refl
past-over f (x ∷ l) s h = rw (and_parts (f x) (all f l) h).0 (past-over f l s (and_parts (f x) (all f l) h).1)

pub through-over : (c : ℕ) (p l s : List ℕ) → all (other c) l ≡ true → throughFirst (c ∷ p) (l ++ s) ≡ throughFirst (c ∷ p) s
unfolding throughFirst all
through-over c p [] s h = refl
through-over c p (x ∷ l) s h = rw (not-true (eqb x c) (and_parts (other c x) (all (other c) l) h).0) (through-over c p l s (and_parts (other c x) (all (other c) l) h).1)

pub raw-over : (l s : List ℕ) → all (other (byte "<")) l ≡ true → somewhere isRawEnd (l ++ s) ≡ somewhere isRawEnd s
unfolding somewhere all
raw-over [] s h = refl
raw-over (x ∷ l) s h =
    rw (not-true (eqb x (byte "<")) (and_parts (other (byte "<") x) (all (other (byte "<")) l) h).0) (raw-over l s (and_parts (other (byte "<") x) (all (other (byte "<")) l) h).1)

-- neither `]` nor `>`
abbrev pub calm : ℕ → Bool
calm b = other (byte "]") b && other (byte ">") b

pub even-over : (l s : List ℕ) → all calm l ≡ true → closesEven 0 (l ++ s) ≡ closesEven 0 s
unfolding closesEven all
even-over [] s h = refl
even-over (x ∷ l) s h =
    let k = (and_parts (calm x) (all calm l) h).0 in
    rw (not-true (eqb x (byte "]")) (and_parts (other (byte "]") x) (other (byte ">") x) k).0, not-true (eqb x (byte ">")) (and_parts (other (byte "]") x) (other (byte ">") x) k).1)
    (even-over l s (and_parts (calm x) (all calm l) h).1)

pub private-calm : (l : List ℕ) → all isPrivate l ≡ true → all calm l ≡ true
private-calm l h = all-more isPrivate calm (λ x p. rw (excluded isPrivate (byte "]") x refl p, excluded isPrivate (byte ">") x refl p)) l h

-- ---- behind the `<` of an opening
abbrev pub rest : Form → List ℕ
rest Comment = bytes "!--"
rest Instruction = bytes "?"
rest (Declaration letter h) = byte "!" ∷ letter ∷ []
rest Cdata = bytes "![CDATA["

abbrev pub inside : Form → List ℕ → List ℕ → List ℕ
inside f b q = rest f ++ (b ++ (closer f ++ q))

pub around-inside : (f : Form) (b q : List ℕ) → around f b ++ q ≡ byte "<" ∷ inside f b q
around-inside Comment b q = ap (λ (l : List ℕ). bytes "<!--" ++ l) (append_assoc b (closer Comment) q)
around-inside Instruction b q = ap (λ (l : List ℕ). bytes "<?" ++ l) (append_assoc b (closer Instruction) q)
around-inside (Declaration letter h) b q = ap (λ (l : List ℕ). byte "<" ∷ byte "!" ∷ letter ∷ l) (append_assoc b (bytes ">") q)
around-inside Cdata b q = ap (λ (l : List ℕ). bytes "<![CDATA[" ++ l) (append_assoc b (closer Cdata) q)

-- all of an opening and its closer
record Clear (g : ℕ → Bool) (f : Form) : Type 0 where
  front : all g (byte "<" ∷ rest f) ≡ true
  back : all g (closer f) ≡ true

-- a letter is none of these
letter-other : (c l : ℕ) → isLetter c ≡ false → isLetter l ≡ true → other c l ≡ true
letter-other c l e h = rw (excluded isLetter c l e h)

-- ---- quotation marks
clear-double : (f : Form) → Clear (other (byte "\"")) f
unfolding all
clear-double Comment = record { front = refl; back = refl }
clear-double Instruction = record { front = refl; back = refl }
clear-double (Declaration l h) = record { front = rw (letter-other (byte "\"") l refl h); back = refl }
clear-double Cdata = record { front = refl; back = refl }

clear-single : (f : Form) → Clear (other (byte "'")) f
unfolding all
clear-single Comment = record { front = refl; back = refl }
clear-single Instruction = record { front = refl; back = refl }
clear-single (Declaration l h) = record { front = rw (letter-other (byte "'") l refl h); back = refl }
clear-single Cdata = record { front = refl; back = refl }

module _ (f : Form) (b q : List ℕ) (h : all isPrivate b ≡ true) where
  quoted-over : (c : ℕ) → isPrivate c ≡ false → Clear (other c) f → past (other c) (byte "<" ∷ inside f b q) ≡ past (other c) q
  quoted-over c e k =
      past-over (other c) (byte "<" ∷ rest f) (b ++ (closer f ++ q)) k.front
      ∙ past-over (other c) b (closer f ++ q) (private-other c e b h)
      ∙ past-over (other c) (closer f) q k.back

  quoted : (m : ℕ) → isQuote m ≡ true → past (λ x. not (eqb x m)) (byte "<" ∷ inside f b q) ≡ past (λ x. not (eqb x m)) q
  quoted m e =
      split (eqb m (byte "\"")) (λ j. rw (eqb-true m (byte "\"") j) (quoted-over (byte "\"") refl (clear-double f)))
      (λ j. split (eqb m (byte "'")) (λ i. rw (eqb-true m (byte "'") i) (quoted-over (byte "'") refl (clear-single f)))
      (λ i. let z : false ≡ true = simp (j, i) at e in clash true refl (sym z)))

-- ---- closers
-- what is left behind p that is looked for from the opening on
record Way (p : List ℕ) (f : Form) : Type 0 where
  to : List ℕ → Left
  most : (q : List ℕ) → AtMost q (to q)
  is : (b q : List ℕ) → all isPrivate b ≡ true → throughFirst p (byte "<" ∷ inside f b q) ≡ to q

passes : (c : ℕ) (p : List ℕ) (f : Form) → isPrivate c ≡ false → Clear (other c) f → Way (c ∷ p) f
passes c p f e k =
    record {
      to = throughFirst (c ∷ p);
      most = through-most (c ∷ p);
      is = λ b q h.
          through-over c p (byte "<" ∷ rest f) (b ++ (closer f ++ q)) k.front
          ∙ through-over c p b (closer f ++ q) (private-other c e b h)
          ∙ through-over c p (closer f) q k.back;
    }

ends : (p : List ℕ) (f : Form) → ((b q : List ℕ) → all isPrivate b ≡ true → throughFirst p (byte "<" ∷ inside f b q) ≡ left q) → Way p f
ends p f k = record { to = left; most = λ q. omega arith; is = k }

pub comment-ends : (b q : List ℕ) → all isPrivate b ≡ true → throughFirst (bytes "-->") (bytes "--" ++ (b ++ (bytes "-->" ++ q))) ≡ left q
unfolding throughFirst all
comment-ends [] q h = refl
comment-ends (x ∷ b) q h =
    let p = (and_parts (isPrivate x) (all isPrivate b) h).0 in
    rw (excluded isPrivate (byte ">") x refl p, excluded isPrivate (byte "-") x refl p)
    (through-over (byte "-") (bytes "->") b (bytes "-->" ++ q) (private-other (byte "-") refl b (and_parts (isPrivate x) (all isPrivate b) h).1))

pub instruction-ends : (b q : List ℕ) → all isPrivate b ≡ true → throughFirst (bytes "?>") (b ++ (bytes "?>" ++ q)) ≡ left q
unfolding throughFirst
instruction-ends b q h = through-over (byte "?") (bytes ">") b (bytes "?>" ++ q) (private-other (byte "?") refl b h)

question-ends : (b q : List ℕ) → all isPrivate b ≡ true → throughFirst (bytes "?>") (byte "?" ∷ (b ++ (bytes "?>" ++ q))) ≡ left q
unfolding throughFirst all
question-ends [] q h = refl
question-ends (x ∷ b) q h =
    rw (excluded isPrivate (byte ">") x refl (and_parts (isPrivate x) (all isPrivate b) h).0) (instruction-ends (x ∷ b) q h)

pub cdata-ends : (b q : List ℕ) → all isPrivate b ≡ true → throughFirst (bytes "]]>") (b ++ (bytes "]]>" ++ q)) ≡ left q
unfolding throughFirst
cdata-ends b q h = through-over (byte "]") (bytes "]>") b (bytes "]]>" ++ q) (private-other (byte "]") refl b h)

-- the first `>` is the closer's last byte
pub angle-ends : (b z q : List ℕ) → all isPrivate b ≡ true → all (other (byte ">")) z ≡ true → throughFirst (bytes ">") (b ++ (z ++ (byte ">" ∷ q))) ≡ left q
unfolding throughFirst
angle-ends b z q h k =
    through-over (byte ">") [] b (z ++ (byte ">" ∷ q)) (private-other (byte ">") refl b h) ∙ through-over (byte ">") [] z (byte ">" ∷ q) k

angle-way : (f : Form) (z : List ℕ) → all (other (byte ">")) (byte "<" ∷ rest f) ≡ true → all (other (byte ">")) z ≡ true
    → ((q : List ℕ) → closer f ++ q ≡ z ++ (byte ">" ∷ q)) → Way (bytes ">") f
angle-way f z a k e =
    ends (bytes ">") f
    (λ b q h. through-over (byte ">") [] (byte "<" ∷ rest f) (b ++ (closer f ++ q)) a ∙ ap (λ (l : List ℕ). throughFirst (bytes ">") (b ++ l)) (e q) ∙ angle-ends b z q h k)

way : (g f : Form) → Way (closer g) f
unfolding all throughFirst
way Comment Comment = ends (bytes "-->") Comment comment-ends
way Comment Instruction = passes (byte "-") (bytes "->") Instruction refl record { front = refl; back = refl }
way Comment (Declaration l h) = passes (byte "-") (bytes "->") (Declaration l h) refl record { front = rw (letter-other (byte "-") l refl h); back = refl }
way Comment Cdata = passes (byte "-") (bytes "->") Cdata refl record { front = refl; back = refl }
way Instruction Comment = passes (byte "?") (bytes ">") Comment refl record { front = refl; back = refl }
way Instruction Instruction = ends (bytes "?>") Instruction question-ends
way Instruction (Declaration l h) = passes (byte "?") (bytes ">") (Declaration l h) refl record { front = rw (letter-other (byte "?") l refl h); back = refl }
way Instruction Cdata = passes (byte "?") (bytes ">") Cdata refl record { front = refl; back = refl }
way (Declaration l h) Comment = angle-way Comment (bytes "--") refl refl (λ q. refl)
way (Declaration l h) Instruction = angle-way Instruction (bytes "?") refl refl (λ q. refl)
way (Declaration l h) (Declaration m k) = angle-way (Declaration m k) [] (rw (letter-other (byte ">") m refl k)) refl (λ q. refl)
way (Declaration l h) Cdata = angle-way Cdata (bytes "]]") refl refl (λ q. refl)
way Cdata Comment = passes (byte "]") (bytes "]>") Comment refl record { front = refl; back = refl }
way Cdata Instruction = passes (byte "]") (bytes "]>") Instruction refl record { front = refl; back = refl }
way Cdata (Declaration l h) = passes (byte "]") (bytes "]>") (Declaration l h) refl record { front = rw (letter-other (byte "]") l refl h); back = refl }
way Cdata Cdata = ends (bytes "]]>") Cdata cdata-ends

-- two bodies of one form
pub bodies-alike : (f : Form) (b₁ b₂ q : List ℕ) → all isPrivate b₁ ≡ true → all isPrivate b₂ ≡ true → Alike (inside f b₁ q) (inside f b₂ q) q
bodies-alike f b₁ b₂ q h₁ h₂ =
    record {
      quoted₁ = quoted f b₁ q h₁;
      quoted₂ = quoted f b₂ q h₂;
      through = λ g. (way g f).is b₁ q h₁ ∙ sym ((way g f).is b₂ q h₂);
      through-most = λ g. rw ((way g f).is b₂ q h₂) ((way g f).most q);
    }
