-- At the opening of a private body itself: inline reading takes all through the closer, a line's content that begins there opens the block kind of the form, and
-- the two end conditions that are no plain search, of raw names and of F1, come to the same for every body.
use Rattle.std.proofs.Common.{◌≡◌, refl, ◌∙◌, Bool, true, false, List, [], ◌∷◌, ◌++◌, append_assoc, ℕ, eqb}
use Rattle.lexical.specs.Text.{byte, bytes, run}
use Rattle.lexical.specs.Byte.{isLetter}
use Rattle.lexical.specs.Name.{all, isMember, sameBytes, isRawName, rawNames, cdataPrefix}
use Rattle.lexical.proofs.Cases.{excluded}
use Rattle.rules.specs.Search.{choose, somewhere}
use Rattle.rules.specs.Tag.{openTag, closingTag}
use Rattle.rules.specs.Inline.{instruction, declaration, htmlTag, prefix, takes, lacks, rawHtml, readInline}
use Rattle.rules.specs.Block.{kindAt, startsRaw, isRawEnd}
use Rattle.rules.specs.Withhold.{tried}
use Rattle.rules.specs.Private.{isPrivate, Form, closer, comment as Comment, instruction as Instruction, declaration as Declaration, cdata as Cdata}
use Rattle.rules.specs.declared.Rules.{Rules}
use Rattle.rules.proofs.Comment.{comment-is}
use Rattle.runs.proofs.Closes.{closesEven}
use Rattle.runs.proofs.Body.{inside, all-and, rest, other, private-other, private-calm, raw-over, even-over, comment-ends, instruction-ends, angle-ends, cdata-ends}

-- ---- inline
raw-opens : (ρ : Rules) (f : Form) (b q : List ℕ) → all isPrivate b ≡ true → rawHtml ρ 0 (byte "<" ∷ inside f b q) ≡ takes q 0
unfolding rawHtml htmlTag openTag closingTag instruction declaration prefix cdataPrefix all
raw-opens ρ Comment b q h = rw (comment-is (byte "<" ∷ inside Comment b q), comment-ends b q h)
raw-opens ρ Instruction b q h = rw (comment-is (byte "<" ∷ inside Instruction b q), instruction-ends b q h)
raw-opens ρ (Declaration l e) b q h =
    rw (comment-is (byte "<" ∷ inside (Declaration l e) b q), excluded isLetter (byte "[") l refl e, excluded isLetter (byte "-") l refl e, e, angle-ends b [] q h refl)
raw-opens ρ Cdata b q h = rw (cdata-ends b q h)

pub inline-opens : (ρ : Rules) (f : Form) (b q : List ℕ) → all isPrivate b ≡ true → readInline ρ 0 (byte "<" ∷ inside f b q) ≡ takes q 0
unfolding readInline
inline-opens ρ f b q h = rw (raw-opens ρ f b q h) (either ρ.t2)
  where
    either : (t2 : Bool) → choose t2 (λ _. takes q 0) (λ _. takes q 0) ≡ takes q 0
    either true = refl
    either false = refl

-- what begins with no `<` is none
raw-none : (ρ : Rules) (x : ℕ) (s : List ℕ) → eqb x (byte "<") ≡ false → rawHtml ρ 0 (x ∷ s) ≡ lacks 0
unfolding rawHtml htmlTag openTag closingTag instruction declaration
raw-none ρ x s e = rw (comment-is (x ∷ s), e)

pub not-open : (ρ : Rules) (x : ℕ) (s : List ℕ) → eqb x (byte "<") ≡ false → readInline ρ 0 (x ∷ s) ≡ lacks 0
unfolding readInline
not-open ρ x s e = rw (raw-none ρ x s e) (either ρ.t2)
  where
    either : (t2 : Bool) → choose t2 (λ _. lacks 0) (λ _. lacks 0) ≡ lacks 0
    either true = refl
    either false = refl

-- nor is what is not tried
pub not-tried : (ρ : Rules) (odd : Bool) (x : ℕ) (s : List ℕ) → eqb x (byte "<") ≡ false → tried ρ odd (x ∷ s) ≡ lacks 0
not-tried ρ true x s e = refl
not-tried ρ false x s e = not-open ρ x s e

-- a body with its opening and closer, but for the first `<` and the last `>`
abbrev pub short : Form → List ℕ
short Comment = bytes "--"
short Instruction = bytes "?"
short (Declaration l h) = []
short Cdata = bytes "]]"

abbrev pub interior : Form → List ℕ → List ℕ
interior f b = rest f ++ (b ++ short f)

pub inside-is : (f : Form) (b q : List ℕ) → inside f b q ≡ interior f b ++ (byte ">" ∷ q)
inside-is Comment b q = simp append_assoc
inside-is Instruction b q = simp append_assoc
inside-is (Declaration l h) b q = simp append_assoc
inside-is Cdata b q = simp append_assoc

pub interior-closed : (f : Form) (b : List ℕ) → all isPrivate b ≡ true → all (other (byte "<")) (interior f b) ≡ true
unfolding all
interior-closed Comment b h = all-and (other (byte "<")) b (bytes "--") (private-other (byte "<") refl b h) refl
interior-closed Instruction b h = all-and (other (byte "<")) b (bytes "?") (private-other (byte "<") refl b h) refl
interior-closed (Declaration l e) b h = rw (excluded isLetter (byte "<") l refl e) (all-and (other (byte "<")) b [] (private-other (byte "<") refl b h) refl)
interior-closed Cdata b h = all-and (other (byte "<")) b (bytes "]]") (private-other (byte "<") refl b h) refl

-- ---- the kind of block
abbrev pub kindOfForm : Form → ℕ
kindOfForm Comment = 2
kindOfForm Instruction = 3
kindOfForm (Declaration l h) = 4
kindOfForm Cdata = 5

pub kind-opens : (ρ : Rules) (flag : ℕ) (f : Form) (b q : List ℕ) → kindAt ρ flag (byte "<" ∷ inside f b q) ≡ kindOfForm f
unfolding kindAt startsRaw isRawName isMember sameBytes rawNames run
kind-opens ρ flag Comment b q = refl
kind-opens ρ flag Instruction b q = refl
kind-opens ρ flag (Declaration l h) b q = rw (excluded isLetter (byte "-") l refl h, h)
kind-opens ρ flag Cdata b q = refl

-- ---- end conditions
raw-opening : (f : Form) (s : List ℕ) → somewhere isRawEnd (byte "<" ∷ (rest f ++ s)) ≡ somewhere isRawEnd s
unfolding somewhere all
raw-opening Comment s = refl
raw-opening Instruction s = refl
raw-opening (Declaration l h) s = raw-over (byte "!" ∷ l ∷ []) s (rw (excluded isLetter (byte "<") l refl h))
raw-opening Cdata s = refl

raw-closer : (f : Form) (q : List ℕ) → somewhere isRawEnd (closer f ++ q) ≡ somewhere isRawEnd q
unfolding somewhere
raw-closer Comment q = refl
raw-closer Instruction q = refl
raw-closer (Declaration l h) q = refl
raw-closer Cdata q = refl

pub raw-across : (f : Form) (b q : List ℕ) → all isPrivate b ≡ true → somewhere isRawEnd (byte "<" ∷ inside f b q) ≡ somewhere isRawEnd q
raw-across f b q h = raw-opening f (b ++ (closer f ++ q)) ∙ raw-over b (closer f ++ q) (private-other (byte "<") refl b h) ∙ raw-closer f q

-- F1: the run of `]` is broken by the opening
even-opening : (n : ℕ) (f : Form) (s : List ℕ) → closesEven n (byte "<" ∷ (rest f ++ s)) ≡ closesEven 0 s
unfolding closesEven all
even-opening n Comment s = refl
even-opening n Instruction s = refl
even-opening n (Declaration l h) s = even-over (byte "!" ∷ l ∷ []) s (rw (excluded isLetter (byte "]") l refl h, excluded isLetter (byte ">") l refl h))
even-opening n Cdata s = refl

abbrev pub evenTo : Form → List ℕ → Bool
evenTo Comment q = closesEven 0 q
evenTo Instruction q = closesEven 0 q
evenTo (Declaration l h) q = closesEven 0 q
evenTo Cdata q = true

even-closer : (f : Form) (q : List ℕ) → closesEven 0 (closer f ++ q) ≡ evenTo f q
unfolding closesEven
even-closer Comment q = refl
even-closer Instruction q = refl
even-closer (Declaration l h) q = refl
even-closer Cdata q = refl

pub even-across : (n : ℕ) (f : Form) (b q : List ℕ) → all isPrivate b ≡ true → closesEven n (byte "<" ∷ inside f b q) ≡ evenTo f q
even-across n f b q h = even-opening n f (b ++ (closer f ++ q)) ∙ even-over b (closer f ++ q) (private-calm b h) ∙ even-closer f q
