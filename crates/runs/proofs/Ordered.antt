-- The pieces of a bulletin stand in text order, each with a byte and none over another: an inline reading takes a byte or more, and the next begins where it
-- stops; a block stops where its last line ends, and a paragraph where its text ends, and each later line that gives a piece stands behind that. So what is shown
-- is the bytes before the first piece, and then what the other pieces leave of the bytes from its stop on.
use Rattle.std.proofs.Common.{◌≡◌, refl, sym, ◌∙◌, ap, Bool, true, false, ◌||◌, not, List, [], ◌∷◌, ◌++◌, ℕ, zero, suc, ◌+◌, ◌-◌, ◌<◌, ◌≤◌, add-zero, arith, eqb, leb, length, take, drop, length-append, drop-drop, le-leb, lt-ltb, le-ltb}
use Rattle.std.proofs.Math.Bool.{and-false}
use borrow.Author.Tests.{lt-leb}
use Rattle.lexical.specs.Text.{run}
use Rattle.lexical.specs.Name.{isRawName}
use Rattle.lexical.specs.Line.{isBlank}
use Rattle.lexical.proofs.Cases.{clash}
use Rattle.rules.specs.Search.{choose}
use Rattle.rules.specs.Inline.{Read, takes, lacks}
use Rattle.rules.specs.Tag.{openTag, closingTag}
use Rattle.rules.specs.Lines.{Line, line, linesOf}
use Rattle.rules.specs.Block.{kindAt, kindOf, startsRaw, startsBasic, startsComplete, extentOf, stopAfter}
use Rattle.rules.specs.Withhold.{Mark, blockFirst, marks, goesOn, Piece, piece, inline, byRead, oddBehind, tried, inlinePieces, linePieces, pieces, isWithheld, outside}
use Rattle.rules.specs.declared.Rules.{Rules}
use Rattle.runs.proofs.Less.{ReadMost, tried-most}
use Rattle.rules.proofs.LineLaws.{sizes, lines-size, stopFrom, stop-from, stop-is}
use Rattle.runs.proofs.Covered.{extent-some}

-- pieces that stand in order between two indices, each with a byte, none over another
pub data Ordered : ℕ → ℕ → List Piece → Type 0 where
  none : {lo hi : ℕ} → lo ≤ hi → Ordered lo hi []
  one-more : {lo hi : ℕ} {p : Piece} {ps : List Piece} → lo ≤ p.start → p.start < p.stop → Ordered p.stop hi ps → Ordered lo hi (p ∷ ps)

pub bounds : {lo hi : ℕ} {ps : List Piece} → Ordered lo hi ps → lo ≤ hi
bounds (none h) = h
bounds (one-more a b o) = let h = bounds o in omega arith

module _ {lo hi : ℕ} {p : Piece} {ps : List Piece} where
  pub first-from : Ordered lo hi (p ∷ ps) → lo ≤ p.start
  first-from (one-more a b o) = a

  pub first-some : Ordered lo hi (p ∷ ps) → p.start < p.stop
  first-some (one-more a b o) = b

  pub others : Ordered lo hi (p ∷ ps) → Ordered p.stop hi ps
  others (one-more a b o) = o

  pub first-to : Ordered lo hi (p ∷ ps) → p.stop ≤ hi
  first-to o = bounds (others o)

-- each has a byte
pub fewer : {lo hi : ℕ} {ps : List Piece} → Ordered lo hi ps → lo + length ps ≤ hi
fewer (none h) = omega arith
fewer (one-more a b o) = let h = fewer o in omega arith

-- between wider bounds
pub widen : {lo hi low high : ℕ} {ps : List Piece} → low ≤ lo → hi ≤ high → Ordered lo hi ps → Ordered low high ps
widen {low = low} {high} a b (none h) = let w : low ≤ high = omega arith in none w
widen {low = low} a b (one-more {p = p} c d o) = let w : low ≤ p.start = omega arith in one-more w d (widen (omega arith) b o)

pub appended : {lo mid hi : ℕ} {ps qs : List Piece} → Ordered lo mid ps → Ordered mid hi qs → Ordered lo hi (ps ++ qs)
appended (none h) q = widen h (omega arith) q
appended (one-more a b o) q = one-more a b (appended o q)

-- ---- the pieces of a paragraph
inline-ordered : (ρ : Rules) (n i : ℕ) (odd : Bool) (s : List ℕ) → Ordered i (i + length s) (inlinePieces ρ n i odd s)
unfolding inlinePieces
inline-ordered ρ zero i odd s = let h : i ≤ i + length s = omega arith in none h
inline-ordered ρ (suc n) i odd [] = let h : i ≤ i + 0 = omega arith in none h
inline-ordered ρ (suc n) i odd (x ∷ s) = by-read (λ k o t. inline-ordered ρ n k o t) (tried ρ odd (x ∷ s)) (tried-most ρ odd x s)
  where
    by-read : ((k : ℕ) (o : Bool) (t : List ℕ) → Ordered k (k + length t) (inlinePieces ρ n k o t)) → (r : Read) → ReadMost s r
        → Ordered i (i + length (x ∷ s)) (byRead r (λ _. inlinePieces ρ n (suc i) (oddBehind odd x) s) (λ t. piece i (i + (length (x ∷ s) - length t)) inline ∷ inlinePieces ρ n (i + (length (x ∷ s) - length t)) false t))
    by-read ih (takes t k) h =
        let j = i + (length (x ∷ s) - length t) in
        let a : i ≤ i = omega arith in
        let b : i < j = omega arith in
        let o : Ordered j (i + length (x ∷ s)) (inlinePieces ρ n j false t) = widen (omega arith) (omega arith) (ih j false t) in
        one-more a b o
    by-read ih (lacks k) h = widen (omega arith) (omega arith) (ih (suc i) (oddBehind odd x) s)

-- ---- blocks
-- a line that opens a block has a byte
opens-some : (ρ : Rules) (f : ℕ) (e c : List ℕ) → eqb (kindOf ρ (line f e c)) 0 ≡ false → 0 < length c
unfolding kindOf kindAt startsRaw startsBasic startsComplete run openTag closingTag
opens-some ρ f e [] h = clash true refl (rw (and-false (ρ.f3 || not (isRawName []))) at h)
opens-some ρ f e (x ∷ c) h = omega arith

-- ---- the pieces of all lines
module _ (ρ : Rules) where
  -- all pieces stand from an index on, and behind what a paragraph that is open takes of the lines
  abbrev Claim : ℕ → ℕ → List Mark → List Line → Type 0
  Claim from i ms ls = Ordered (from + length (goesOn ms ls)) (i + sizes ls) (linePieces ρ i ms ls)

  choose-claim : (t : Bool) (from i : ℕ) (x y : List Mark) (ls : List Line) → (t ≡ true → Claim from i x ls) → (t ≡ false → Claim from i y ls) → Claim from i (choose t (λ _. x) (λ _. y)) ls
  choose-claim true from i x y ls f g = f refl
  choose-claim false from i x y ls f g = g refl

  -- a block stops where its lines end, and has the bytes of the first
  block-first : (l : Line) (ls : List Line) (i k : ℕ) → 0 < length l.content
      → Claim (stopFrom (i + length l.lead + length l.content) ((extentOf ρ k l ls).lines - 1) ls) (i + length l.lead + length l.content) (marks ρ ((extentOf ρ k l ls).lines - 1) false ls) ls
      → Claim i i (blockFirst k (extentOf ρ k l ls) ∷ marks ρ ((extentOf ρ k l ls).lines - 1) false ls) (l ∷ ls)
  unfolding linePieces goesOn
  block-first l ls i k h o =
      let begin = i + length l.lead in
      let end = begin + length l.content in
      let n = (extentOf ρ k l ls).lines - 1 in
      let stop = stopAfter begin (extentOf ρ k l ls).lines (l ∷ ls) in
      let is : stop ≡ stopFrom end n ls = ap (λ (m : ℕ). stopAfter begin m (l ∷ ls)) (extent-some ρ k l ls) ∙ stop-is n begin l ls in
      let far = stop-from end n ls in
      let a : i + 0 ≤ begin = omega arith in
      let b : begin < stop = omega arith in
      let rest : Ordered stop (i + sizes (l ∷ ls)) (linePieces ρ end (marks ρ n false ls) ls) = widen (omega arith) (omega arith) o in
      one-more a b rest

  -- n further lines belong to a block, and all pieces stand behind them
  lines-ordered : (ls : List Line) (n : ℕ) (paragraph : Bool) (i : ℕ) → Claim (stopFrom i n ls) i (marks ρ n paragraph ls) ls
  unfolding marks linePieces goesOn stopFrom
  lines-ordered [] zero paragraph i = let h : i + 0 ≤ i + 0 = omega arith in none h
  lines-ordered [] (suc n) paragraph i = let h : i + 0 ≤ i + 0 = omega arith in none h
  lines-ordered (l ∷ ls) (suc n) paragraph i = widen (omega arith) (omega arith) (lines-ordered ls n false (i + length l.lead + length l.content))
  lines-ordered (l ∷ ls) zero paragraph i =
      let begin = i + length l.lead in
      let end = begin + length l.content in
      let text = goesOn (marks ρ zero true ls) ls in
      choose-claim (eqb (kindOf ρ l) 0) i i _ _ (l ∷ ls)
      (λ _. choose-claim (isBlank l.content) i i _ _ (l ∷ ls)
      (λ _. widen (omega arith) (omega arith) (lines-ordered ls zero false end))
      (λ _.
      let size = length-append l.content text in
      choose-claim paragraph i i _ _ (l ∷ ls)
      (λ _. widen (omega (arith, length-append l.lead (l.content ++ text))) (omega arith) (lines-ordered ls zero true end))
      (λ _. appended {mid = end + length text} (widen (omega arith) (omega arith) (inline-ordered ρ (length (l.content ++ text)) begin false (l.content ++ text))) (widen (omega arith) (omega arith) (lines-ordered ls zero true end)))))
      (λ h. block-first l ls i (kindOf ρ l) (opens-some ρ l.flag l.lead l.content h) (lines-ordered ls ((extentOf ρ (kindOf ρ l) l ls).lines - 1) false end))

-- ---- the whole bulletin
pub pieces-ordered : (ρ : Rules) (text flags : List ℕ) → Ordered 0 (length text) (pieces ρ text flags)
unfolding pieces
pieces-ordered ρ text flags = widen (omega arith) (omega (arith, lines-size flags text)) (lines-ordered ρ (linesOf flags text) 0 false 0)

-- ---- what is shown
pub outside-none : (i : ℕ) (s : List ℕ) → outside i [] s ≡ s
unfolding outside isWithheld
outside-none i [] = refl
outside-none i (x ∷ s) = ap (λ (t : List ℕ). x ∷ t) (outside-none (suc i) s)

-- no byte before the pieces is withheld
before-none : {lo hi : ℕ} {ps : List Piece} (i : ℕ) → Ordered lo hi ps → i < lo → isWithheld i ps ≡ false
unfolding isWithheld
before-none i (none h) l = refl
before-none i (one-more {p = p} a b o) l = rw (lt-leb p.start i (omega arith)) (before-none i o (omega arith))

-- they are shown
shown-before : {lo hi : ℕ} {ps : List Piece} → Ordered lo hi ps → (n i : ℕ) (s : List ℕ) → i + n ≡ lo → outside i ps s ≡ take n s ++ outside lo ps (drop n s)
unfolding outside
shown-before o zero i s e = rw (sym (add-zero i) ∙ e)
shown-before o (suc n) i [] e = refl
shown-before o (suc n) i (x ∷ s) e = rw (before-none i o (omega arith)) (ap (λ (t : List ℕ). x ∷ t) (shown-before o n (suc i) s (omega arith)))

-- behind a piece it withholds nothing, and from its start to its stop all
behind-first : (p : Piece) (ps : List Piece) (i : ℕ) (s : List ℕ) → p.stop ≤ i → outside i (p ∷ ps) s ≡ outside i ps s
unfolding outside isWithheld
behind-first p ps i [] h = refl
behind-first p ps i (x ∷ s) h = rw (le-ltb i p.stop h, and-false (leb p.start i), behind-first p ps (suc i) s (omega arith))

past-first : (p : Piece) (ps : List Piece) (n i : ℕ) (s : List ℕ) → p.start ≤ i → i + n ≡ p.stop → outside i (p ∷ ps) s ≡ outside p.stop ps (drop n s)
unfolding outside isWithheld
past-first p ps zero i s h e = behind-first p ps i s (omega arith) ∙ ap (λ (k : ℕ). outside k ps s) (omega arith)
past-first p ps (suc n) i [] h e = refl
past-first p ps (suc n) i (x ∷ s) h e = rw (le-leb p.start i h, lt-ltb i p.stop (omega arith)) (past-first p ps n (suc i) s (omega arith) (omega arith))

pub outside-next : (text : List ℕ) (from hi : ℕ) (p : Piece) (ps : List Piece) → Ordered from hi (p ∷ ps) → hi ≤ length text
    → outside from (p ∷ ps) (drop from text) ≡ take (p.start - from) (drop from text) ++ outside p.stop ps (drop p.stop text)
outside-next text from hi p ps (one-more a b o) h =
    let same : p.start ≤ p.start = omega arith in
    let n = p.start - from in
    let m = p.stop - p.start in
    let reaches : from + (n + m) ≡ p.stop = omega arith in
    let there : drop m (drop n (drop from text)) ≡ drop p.stop text = drop-drop m n (drop from text) ∙ drop-drop (n + m) from text ∙ ap (λ (k : ℕ). drop k text) reaches in
    shown-before (one-more same b o) n from (drop from text) (omega arith)
    ∙ ap (λ (t : List ℕ). take n (drop from text) ++ t) (past-first p ps m p.start (drop n (drop from text)) same (omega arith) ∙ ap (outside p.stop ps) there)
