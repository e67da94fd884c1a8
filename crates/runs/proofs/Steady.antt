-- Block rules of two lines that are alike but for a private body: both open the same kind, and close the same kinds. Each test of a start condition looks at
-- bytes up to the private opening only, or begins at it; a complete tag and the closers correspond. A line of private bytes closes nothing.
use Rattle.std.proofs.Common.{◌≡◌, refl, sym, ◌∙◌, ap, Bool, true, false, ◌&&◌, ◌||◌, not, List, [], ◌∷◌, ◌++◌, append-nil, ℕ, suc, eqb, leb, drop}
use Rattle.std.proofs.lemmas.Bool.{and_parts}
use Rattle.lexical.specs.Text.{byte, bytes, first, run}
use Rattle.lexical.specs.Byte.{isLetter, isTagNameByte}
use Rattle.lexical.specs.Name.{all, isRawName, isBlockName}
use Rattle.lexical.proofs.Cases.{split}
use Rattle.rules.specs.Search.{choose, begins, somewhere, Left, left, nothing, throughFirst}
use Rattle.rules.specs.Tag.{blockTags, openTag, closingTag}
use Rattle.rules.specs.Lines.{line}
use Rattle.rules.specs.Block.{nameOf, afterName, nameEnds, startsRaw, basicName, startsBasic, fillsLine, startsComplete, kindAt, kindOf, isRawEnd, closes}
use Rattle.rules.specs.Private.{isPrivate, Form, closer, comment as Comment, instruction as Instruction, declaration as Declaration, cdata as Cdata}
use Rattle.rules.specs.declared.Rules.{Rules}
use Rattle.rules.proofs.Past.{past-run}
use Rattle.runs.proofs.Closes.{closesEven, closes-is}
use Rattle.runs.proofs.Alike.{Alike, Pair, ahead, behind, Lefts, lefts, nothings, first-same, past-pair, name-same, run-same, begins-same, drop-pair, end-same, blank-same}
use Rattle.runs.proofs.Tags.{open-lefts, close-lefts}
use Rattle.runs.proofs.InlineReads.{through-lefts}
use Rattle.runs.proofs.Body.{inside, bodies-alike, through-over, raw-over, even-over, private-other, private-calm}
use Rattle.runs.proofs.Opening.{kind-opens, raw-across, even-across}

-- where the first test holds the second is the same
and-same : (a b c : Bool) → (a ≡ true → b ≡ c) → (a && b) ≡ (a && c)
and-same true b c f = f refl
and-same false b c f = refl

-- ---- names
module _ {w₁ w₂ q : List ℕ} where
  ends-same : {s t : List ℕ} → Pair w₁ w₂ q s t → nameEnds s ≡ nameEnds t
  unfolding all
  ends-same r = rw (end-same r, first-same r, begins-same (bytes ">") refl r)

  name-is : {s t : List ℕ} → Pair w₁ w₂ q s t → nameOf s ≡ nameOf t
  name-is r = name-same isTagNameByte refl r

  after-name : {s t : List ℕ} → Pair w₁ w₂ q s t → Pair w₁ w₂ q (afterName s) (afterName t)
  after-name {s} {t} r = rw (← past-run isTagNameByte s, ← past-run isTagNameByte t) (past-pair isTagNameByte refl r)

  raw-name-same : {s t : List ℕ} → Pair w₁ w₂ q s t → (isRawName (nameOf s) && nameEnds (afterName s)) ≡ (isRawName (nameOf t) && nameEnds (afterName t))
  raw-name-same {s} {t} r =
      ap (λ (n : List ℕ). isRawName n && nameEnds (afterName s)) (name-is r) ∙ ap (λ (b : Bool). isRawName (nameOf t) && b) (ends-same (after-name r))

  basic-same : {s t : List ℕ} → Pair w₁ w₂ q s t → basicName s ≡ basicName t
  unfolding all
  basic-same {s} {t} r =
      ap (λ (n : List ℕ). isBlockName n && (nameEnds (afterName s) || begins (bytes "/>") (afterName s))) (name-is r)
      ∙ ap (λ (b : Bool). isBlockName (nameOf t) && (b || begins (bytes "/>") (afterName s))) (ends-same (after-name r))
      ∙ ap (λ (b : Bool). isBlockName (nameOf t) && (nameEnds (afterName t) || b)) (begins-same (bytes "/>") refl (after-name r))

  -- ---- start conditions, from a byte before the private opening on
  module _ (x : ℕ) {s t : List ℕ} (r : Pair w₁ w₂ q s t) where
    front-same : (p : List ℕ) → all (λ b. not (eqb (byte "<") b)) p ≡ true → begins (byte "<" ∷ p) (x ∷ s) ≡ begins (byte "<" ∷ p) (x ∷ t)
    front-same p e = ap (λ (b : Bool). eqb x (byte "<") && b) (begins-same p e r)

    -- with one more byte, and what follows it
    front-more : (c : ℕ) → eqb (byte "<") c ≡ false → (f : List ℕ → Bool) → ((s' t' : List ℕ) → Pair w₁ w₂ q s' t' → f s' ≡ f t')
        → (begins (byte "<" ∷ c ∷ []) (x ∷ s) && f (drop 1 s)) ≡ (begins (byte "<" ∷ c ∷ []) (x ∷ t) && f (drop 1 t))
    unfolding all
    front-more c e f same =
        ap (λ (b : Bool). b && f (drop 1 s)) (front-same (c ∷ []) (rw e))
        ∙ and-same (begins (byte "<" ∷ c ∷ []) (x ∷ t)) (f (drop 1 s)) (f (drop 1 t))
        (λ h. same (drop 1 s) (drop 1 t) (drop-pair (c ∷ []) (rw e) (begins-same (c ∷ []) (rw e) r ∙ (and_parts (eqb x (byte "<")) (begins (c ∷ []) t) h).1) r))

    starts-raw : startsRaw (x ∷ s) ≡ startsRaw (x ∷ t)
    unfolding startsRaw
    starts-raw = ap (λ (b : Bool). (eqb x (byte "<") && true) && b) (raw-name-same r)

    starts-basic : startsBasic (x ∷ s) ≡ startsBasic (x ∷ t)
    unfolding startsBasic
    starts-basic =
        ap (λ (b : Bool). ((eqb x (byte "<") && true) && b) || (begins (bytes "</") (x ∷ s) && basicName (drop 1 s))) (basic-same r)
        ∙ ap (λ (b : Bool). ((eqb x (byte "<") && true) && basicName t) || b) (front-more (byte "/") refl basicName (λ s' t' k. basic-same k))

    letter-follows : (begins (bytes "<!") (x ∷ s) && isLetter (first (drop 1 s))) ≡ (begins (bytes "<!") (x ∷ t) && isLetter (first (drop 1 t)))
    letter-follows = front-more (byte "!") refl (λ l. isLetter (first l)) (λ s' t' k. ap isLetter (first-same k))

    raw-end-same : isRawEnd (x ∷ s) ≡ isRawEnd (x ∷ t)
    unfolding all
    raw-end-same =
        front-more (byte "/") refl (λ l. isRawName (nameOf l) && begins (bytes ">") (afterName l))
        (λ s' t' k.
        ap (λ (n : List ℕ). isRawName n && begins (bytes ">") (afterName s')) (name-is k)
        ∙ ap (λ (b : Bool). isRawName (nameOf t') && b) (begins-same (bytes ">") refl (after-name k)))

  fills-same : {a b : Left} → Lefts w₁ w₂ q a b → fillsLine a ≡ fillsLine b
  fills-same (lefts r) = blank-same r
  fills-same nothings = refl

  pub starts-complete : Alike w₁ w₂ q → (ρ : Rules) (x : ℕ) {s t : List ℕ} → Pair w₁ w₂ q s t → startsComplete ρ (x ∷ s) ≡ startsComplete ρ (x ∷ t)
  unfolding startsComplete
  starts-complete alike ρ x {s} {t} r =
      ap (λ (n : List ℕ). ((ρ.f3 || not (isRawName n)) && fillsLine (openTag (blockTags ρ) (x ∷ s))) || fillsLine (closingTag (x ∷ s))) (name-is r)
      ∙ ap (λ (b : Bool). ((ρ.f3 || not (isRawName (nameOf t))) && b) || fillsLine (closingTag (x ∷ s))) (fills-same (open-lefts alike (blockTags ρ) x r))
      ∙ ap (λ (b : Bool). ((ρ.f3 || not (isRawName (nameOf t))) && fillsLine (openTag (blockTags ρ) (x ∷ t))) || b) (fills-same (close-lefts x r))

-- ---- end conditions that are a plain search
isLeft : Left → Bool
isLeft (left s) = true
isLeft nothing = false

somewhere-is : (p s : List ℕ) → somewhere (begins p) s ≡ isLeft (throughFirst p s)
unfolding somewhere throughFirst isLeft
somewhere-is p [] = refl
somewhere-is p (x ∷ s) = split (begins p (x ∷ s)) (λ h. rw h) (λ h. rw h (somewhere-is p s))

left-same : {w₁ w₂ q : List ℕ} {a b : Left} → Lefts w₁ w₂ q a b → isLeft a ≡ isLeft b
unfolding isLeft
left-same (lefts r) = refl
left-same nothings = refl

plain-same : {w₁ w₂ q : List ℕ} → Alike w₁ w₂ q → (g : Form) {s t : List ℕ} → Pair w₁ w₂ q s t → somewhere (begins (closer g)) s ≡ somewhere (begins (closer g)) t
plain-same alike g {s} {t} r = somewhere-is (closer g) s ∙ left-same (through-lefts alike g r) ∙ sym (somewhere-is (closer g) t)

-- ---- a line with a private body
module _ (ρ : Rules) (f : Form) (b₁ b₂ q : List ℕ) (h₁ : all isPrivate b₁ ≡ true) (h₂ : all isPrivate b₂ ≡ true) where
  abbrev w₁ : List ℕ
  w₁ = inside f b₁ q

  abbrev w₂ : List ℕ
  w₂ = inside f b₂ q

  alike : Alike w₁ w₂ q
  alike = bodies-alike f b₁ b₂ q h₁ h₂

  kind-byte : (flag x : ℕ) (s t : List ℕ) → Pair w₁ w₂ q s t → kindAt ρ flag (x ∷ s) ≡ kindAt ρ flag (x ∷ t)
  unfolding kindAt all
  kind-byte flag x s t r =
      rw (starts-raw x r, front-same x r (bytes "!--") refl, front-same x r (bytes "?") refl, letter-follows x r, front-same x r (bytes "![CDATA[") refl, starts-basic x r, starts-complete alike ρ x r)

  kind-at : (flag : ℕ) {s t : List ℕ} → Pair w₁ w₂ q s t → kindAt ρ flag s ≡ kindAt ρ flag t
  kind-at flag (ahead []) = kind-opens ρ flag f b₁ q ∙ sym (kind-opens ρ flag f b₂ q)
  kind-at flag (ahead (x ∷ u)) = kind-byte flag x (u ++ (byte "<" ∷ w₁)) (u ++ (byte "<" ∷ w₂)) (ahead u)
  kind-at flag (behind s l) = refl

  pub kind-same : (flag : ℕ) (lead u : List ℕ) → kindOf ρ (line flag lead (u ++ (byte "<" ∷ w₁))) ≡ kindOf ρ (line flag lead (u ++ (byte "<" ∷ w₂)))
  unfolding kindOf
  kind-same flag lead u =
      let space : ℕ → Bool = λ b. eqb b (byte " ") in
      let r : Pair w₁ w₂ q (u ++ (byte "<" ∷ w₁)) (u ++ (byte "<" ∷ w₂)) = ahead u in
      let e : kindAt ρ flag (drop (run space (u ++ (byte "<" ∷ w₁))) (u ++ (byte "<" ∷ w₁))) ≡ kindAt ρ flag (drop (run space (u ++ (byte "<" ∷ w₂))) (u ++ (byte "<" ∷ w₂))) =
      rw (← past-run space (u ++ (byte "<" ∷ w₁)), ← past-run space (u ++ (byte "<" ∷ w₂))) (kind-at flag (past-pair space refl r)) in
      ap (λ (k : ℕ). choose (leb (run space (u ++ (byte "<" ∷ w₁))) 3) (λ _. k) (λ _. 0)) e
      ∙ ap (λ (n : ℕ). choose (leb n 3) (λ _. kindAt ρ flag (drop (run space (u ++ (byte "<" ∷ w₂))) (u ++ (byte "<" ∷ w₂)))) (λ _. 0)) (run-same space refl r)

  raw-same : {s t : List ℕ} → Pair w₁ w₂ q s t → somewhere isRawEnd s ≡ somewhere isRawEnd t
  unfolding somewhere
  raw-same (ahead []) = raw-across f b₁ q h₁ ∙ sym (raw-across f b₂ q h₂)
  raw-same (ahead (x ∷ u)) =
      let r : Pair w₁ w₂ q (u ++ (byte "<" ∷ w₁)) (u ++ (byte "<" ∷ w₂)) = ahead u in
      rw (raw-same (ahead u)) (ap (λ (b : Bool). b || somewhere isRawEnd (u ++ (byte "<" ∷ w₂))) (raw-end-same x r))
  raw-same (behind s l) = refl

  even-same : (n : ℕ) {s t : List ℕ} → Pair w₁ w₂ q s t → closesEven n s ≡ closesEven n t
  unfolding closesEven
  even-same n (ahead []) = even-across n f b₁ q h₁ ∙ sym (even-across n f b₂ q h₂)
  even-same n (ahead (x ∷ u)) = rw (even-same (suc n) (ahead u), even-same 0 (ahead u))
  even-same n (behind s l) = refl

  pub closes-same : (k : ℕ) (u : List ℕ) → closes ρ k (u ++ (byte "<" ∷ w₁)) ≡ closes ρ k (u ++ (byte "<" ∷ w₂))
  closes-same k u =
      let r : Pair w₁ w₂ q (u ++ (byte "<" ∷ w₁)) (u ++ (byte "<" ∷ w₂)) = ahead u in
      rw (closes-is ρ k (u ++ (byte "<" ∷ w₁)), closes-is ρ k (u ++ (byte "<" ∷ w₂)), raw-same r, plain-same alike Comment r, plain-same alike Instruction r, plain-same alike (Declaration (byte "A") refl) r, plain-same alike Cdata r, even-same 0 r)

-- ---- a line of private bytes
plain-quiet : (c : ℕ) (p s : List ℕ) → isPrivate c ≡ false → all isPrivate s ≡ true → somewhere (begins (c ∷ p)) s ≡ false
unfolding throughFirst isLeft
plain-quiet c p s e h =
    let k : throughFirst (c ∷ p) (s ++ []) ≡ nothing = through-over c p s [] (private-other c e s h) in
    somewhere-is (c ∷ p) s ∙ ap isLeft (rw append-nil at k)

raw-quiet : (s : List ℕ) → all isPrivate s ≡ true → somewhere isRawEnd s ≡ false
unfolding somewhere
raw-quiet s h = let k : somewhere isRawEnd (s ++ []) ≡ false = raw-over s [] (private-other (byte "<") refl s h) in rw append-nil at k

even-quiet : (s : List ℕ) → all isPrivate s ≡ true → closesEven 0 s ≡ false
unfolding closesEven
even-quiet s h = let k : closesEven 0 (s ++ []) ≡ false = even-over s [] (private-calm s h) in rw append-nil at k

all-false : (a b c d e g : Bool) → choose a (λ _. false) (λ _. choose b (λ _. false) (λ _. choose c (λ _. false) (λ _. choose d (λ _. false) (λ _. choose e (λ _. choose g (λ _. false) (λ _. false)) (λ _. false))))) ≡ false
all-false true b c d e g = refl
all-false false true c d e g = refl
all-false false false true d e g = refl
all-false false false false true e g = refl
all-false false false false false true true = refl
all-false false false false false true false = refl
all-false false false false false false g = refl

pub quiet : (ρ : Rules) (k : ℕ) (s : List ℕ) → all isPrivate s ≡ true → closes ρ k s ≡ false
quiet ρ k s h =
    rw (closes-is ρ k s, raw-quiet s h, plain-quiet (byte "-") (bytes "->") s refl h, plain-quiet (byte "?") (bytes ">") s refl h, plain-quiet (byte ">") [] s refl h, even-quiet s h, plain-quiet (byte "]") (bytes "]>") s refl h)
    (all-false (eqb k 1) (eqb k 2) (eqb k 3) (eqb k 4) (eqb k 5) ρ.f1)
