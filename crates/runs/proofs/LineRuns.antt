-- Two bulletins that differ in private lines which run one withholds within a closed block of kinds 1 to 5: every line has the same mark in both, and the pieces
-- correspond. The block that encloses the lines begins at a line before them. What stands before that line does not reach the private lines, since the line is
-- tried for a block only where no earlier one holds it, and it ends every paragraph; behind it all lines up to its last are its further lines.
use Rattle.std.proofs.Common.{◌≡◌, refl, sym, ◌∙◌, ap, Bool, true, false, ◌||◌, ◌&&◌, List, [], ◌∷◌, ◌++◌, append_assoc, ℕ, zero, suc, ◌+◌, ◌-◌, ◌<◌, ◌≤◌, arith, eqb, leb, ltb, length, length-append, le-ltb, leb-true, ltb-true, ltb-false}
use Rattle.std.proofs.Math.Bool.{or_assoc}
use Rattle.std.proofs.lemmas.Bool.{and_parts}
use Rattle.lexical.specs.Line.{isBlank}
use Rattle.lexical.proofs.Cases.{split, clash}
use Rattle.rules.specs.Search.{choose}
use Rattle.rules.specs.Inline.{Read, takes, lacks}
use Rattle.rules.specs.Lines.{Line}
use Rattle.rules.specs.Block.{Extent, kindOf, extentOf, stopAfter}
use Rattle.rules.specs.Withhold.{inline, Piece, piece, Mark, blockFirst, blockMore, blank, paragraphFirst, paragraphMore, marks, goesOn, byRead, oddBehind, tried, inlinePieces, linePieces}
use Rattle.rules.specs.Private.{any, encloses}
use Rattle.rules.specs.declared.Rules.{Rules}
use Rattle.runs.proofs.Corresponding.{At, early, Corresponding, next, both, early-at, late-at}
use Rattle.runs.proofs.Paragraph.{pieces-prior}
use Rattle.rules.proofs.LineLaws.{sizes, sizes-append}
use Rattle.runs.proofs.Behind.{stop-from}
use Rattle.runs.proofs.PrivateLines.{Privates, firstLead}
use Rattle.runs.proofs.Covered.{same-number, extent-some, extent-over, extent-within, empty, stop-through, stop-bound, stop-within, covered-marks, covered-pieces}

-- ---- which pieces enclose
any-append : (f : Piece → Bool) (a b : List Piece) → any f (a ++ b) ≡ (any f a || any f b)
unfolding any
any-append f [] b = refl
any-append f (x ∷ a) b = rw (any-append f a b) (sym (or_assoc (f x) (any f a) (any f b)))

and-none : (a b : Bool) → (a && (false && b)) ≡ false
and-none true b = refl
and-none false b = refl

-- no inline piece does
inline-none : (ρ : Rules) (i j n k : ℕ) (odd : Bool) (s : List ℕ) → any (encloses i j) (inlinePieces ρ n k odd s) ≡ false
unfolding any inlinePieces
inline-none ρ i j zero k odd s = refl
inline-none ρ i j (suc n) k odd [] = refl
inline-none ρ i j (suc n) k odd (x ∷ s) = by-read (λ m o t. inline-none ρ i j n m o t) (tried ρ odd (x ∷ s))
  where
    by-read : ((m : ℕ) (o : Bool) (t : List ℕ) → any (encloses i j) (inlinePieces ρ n m o t) ≡ false) → (r : Read)
        → any (encloses i j) (byRead r (λ _. inlinePieces ρ n (suc k) (oddBehind odd x) s) (λ t. piece k (k + (length (x ∷ s) - length t)) inline ∷ inlinePieces ρ n (k + (length (x ∷ s) - length t)) false t)) ≡ false
    by-read ih (takes t c) = ih (k + (length (x ∷ s) - length t)) false t
    by-read ih (lacks c) = ih (suc k) (oddBehind odd x) s

-- and none that begins at i or behind it
none-behind : (ρ : Rules) (i j : ℕ) (ms : List Mark) (ls : List Line) (k : ℕ) → i ≤ k + firstLead ls → any (encloses i j) (linePieces ρ k ms ls) ≡ false
unfolding any linePieces
none-behind ρ i j [] ls k h = refl
none-behind ρ i j (m ∷ ms) [] k h = refl
none-behind ρ i j (blockFirst c e ∷ ms) (l ∷ ls) k h =
    rw (le-ltb (k + length l.lead) i h, and-none (leb c 5 && e.closed) (leb j (stopAfter (k + length l.lead) e.lines (l ∷ ls)))) (none-behind ρ i j ms ls (k + length l.lead + length l.content) (omega arith))
none-behind ρ i j (blockMore ∷ ms) (l ∷ ls) k h = none-behind ρ i j ms ls (k + length l.lead + length l.content) (omega arith)
none-behind ρ i j (blank ∷ ms) (l ∷ ls) k h = none-behind ρ i j ms ls (k + length l.lead + length l.content) (omega arith)
none-behind ρ i j (paragraphFirst ∷ ms) (l ∷ ls) k h =
    let t = l.content ++ goesOn ms ls in
    let n = k + length l.lead + length l.content in
    any-append (encloses i j) (inlinePieces ρ (length t) (k + length l.lead) false t) (linePieces ρ n ms ls)
    ∙ ap (λ (b : Bool). b || any (encloses i j) (linePieces ρ n ms ls)) (inline-none ρ i j (length t) (k + length l.lead) false t)
    ∙ none-behind ρ i j ms ls n (omega arith)
none-behind ρ i j (paragraphMore ∷ ms) (l ∷ ls) k h = none-behind ρ i j ms ls (k + length l.lead + length l.content) (omega arith)

-- ---- the private lines stand from the index at on; the bytes that differ, from p on
module _ (ρ : Rules) (a b back : List Line) (r : Privates a b) (p j₁ j₂ at : ℕ) (starts : at ≤ p) (led : suc p ≤ at + firstLead (a ++ back))
    (ends₁ : at + sizes a ≡ j₁) (ends₂ : at + sizes b ≡ j₂) where
  abbrev pub one : List Line → List Line
  one e = e ++ (a ++ back)

  abbrev pub two : List Line → List Line
  two e = e ++ (b ++ back)

  abbrev pub Encloses : ℕ → List Mark → List Line → Type 0
  Encloses i ms e = any (encloses (suc p) (suc j₁)) (linePieces ρ i ms (one e)) ≡ true

  -- the enclosing block begins at a line of e that no block before it holds
  short : (e : List Line) (n : ℕ) (par : Bool) (i : ℕ) → i + sizes e ≡ at → Encloses i (marks ρ n par (one e)) e → n < length e
  unfolding marks linePieces
  short [] n par i h k = clash (any (encloses (suc p) (suc j₁)) (linePieces ρ i (marks ρ n par (one [])) (one []))) k (none-behind ρ (suc p) (suc j₁) (marks ρ n par (one [])) (one []) i (omega arith))
  short (l ∷ e) zero par i h k = omega arith
  short (l ∷ e) (suc n) par i h k = let w = short e n false (i + length l.lead + length l.content) (omega arith) k in omega arith

  pub record Found (e : List Line) (i : ℕ) (ms₁ ms₂ : List Mark) : Type 0 where
    pub same-marks : ms₁ ≡ ms₂
    pub same-text : goesOn ms₁ (one e) ≡ goesOn ms₁ (two e)
    pub text-size : length (goesOn ms₁ (one e)) ≤ sizes e
    pub same-pieces : Corresponding p j₁ j₂ (linePieces ρ i ms₁ (one e)) (linePieces ρ i ms₁ (two e))

  abbrev pub Claim : List Line → ℕ → List Mark → List Mark → Type 0
  Claim e i ms₁ ms₂ = Encloses i ms₁ e → Found e i ms₁ ms₂

  choose-claim : (t : Bool) (e : List Line) (i : ℕ) (x₁ y₁ x₂ y₂ : List Mark) → Claim e i x₁ x₂ → Claim e i y₁ y₂ → Claim e i (choose t (λ _. x₁) (λ _. y₁)) (choose t (λ _. x₂) (λ _. y₂))
  choose-claim true e i x₁ y₁ x₂ y₂ f g = f
  choose-claim false e i x₁ y₁ x₂ y₂ f g = g

  -- ---- a line that begins no block
  module _ (l : Line) (e : List Line) (i : ℕ) (x y : List Mark) (ih : Claim e (i + length l.lead + length l.content) x y) (h : i + sizes (l ∷ e) ≡ at) where
    more-claim : Claim (l ∷ e) i (blockMore ∷ x) (blockMore ∷ y)
    unfolding linePieces goesOn
    more-claim k =
        let w = ih k in
        record { same-marks = ap (λ (ms : List Mark). blockMore ∷ ms) w.same-marks; same-text = refl; text-size = omega arith; same-pieces = w.same-pieces }

    blank-claim : Claim (l ∷ e) i (blank ∷ x) (blank ∷ y)
    unfolding linePieces goesOn
    blank-claim k =
        let w = ih k in
        record { same-marks = ap (λ (ms : List Mark). blank ∷ ms) w.same-marks; same-text = refl; text-size = omega arith; same-pieces = w.same-pieces }

    further-claim : Claim (l ∷ e) i (paragraphMore ∷ x) (paragraphMore ∷ y)
    unfolding linePieces goesOn
    further-claim k =
        let w = ih k in
        record {
          same-marks = ap (λ (ms : List Mark). paragraphMore ∷ ms) w.same-marks;
          same-text = ap (λ (t : List ℕ). l.lead ++ (l.content ++ t)) w.same-text;
          text-size = omega (arith, length-append l.lead (l.content ++ goesOn x (one e)), length-append l.content (goesOn x (one e)), w.text-size);
          same-pieces = w.same-pieces;
        }

    paragraph-claim : Claim (l ∷ e) i (paragraphFirst ∷ x) (paragraphFirst ∷ y)
    unfolding linePieces goesOn
    paragraph-claim k =
        let t = l.content ++ goesOn x (one e) in
        let n = i + length l.lead + length l.content in
        let m = i + length l.lead in
        let f = encloses (suc p) (suc j₁) in
        let skip : any f (inlinePieces ρ (length t) m false t ++ linePieces ρ n x (one e)) ≡ any f (linePieces ρ n x (one e)) =
        any-append f (inlinePieces ρ (length t) m false t) (linePieces ρ n x (one e)) ∙ ap (λ (c : Bool). c || any f (linePieces ρ n x (one e))) (inline-none ρ (suc p) (suc j₁) (length t) m false t) in
        let w = ih (sym skip ∙ k) in
        let prior = pieces-prior ρ p j₁ j₂ (length t) false t m (omega (arith, length-append l.content (goesOn x (one e)), w.text-size)) in
        let same : t ≡ l.content ++ goesOn x (two e) = ap (λ (s : List ℕ). l.content ++ s) w.same-text in
        record {
          same-marks = ap (λ (ms : List Mark). paragraphFirst ∷ ms) w.same-marks;
          same-text = refl;
          text-size = omega arith;
          same-pieces = rw (sym w.same-text) (both prior w.same-pieces);
        }

  -- ---- a line that begins a block
  module _ (l : Line) (e : List Line) (i k : ℕ) (h : i + sizes (l ∷ e) ≡ at) where
    abbrev x₁ : Extent
    x₁ = extentOf ρ k l (one e)

    abbrev x₂ : Extent
    x₂ = extentOf ρ k l (two e)

    abbrev ms₁ : List Mark
    ms₁ = marks ρ (x₁.lines - 1) false (one e)

    abbrev ms₂ : List Mark
    ms₂ = marks ρ (x₂.lines - 1) false (two e)

    abbrev begin : ℕ
    begin = i + length l.lead

    -- what this block gives
    block-found : (same-extent : x₁ ≡ x₂) → marks ρ (x₁.lines - 1) false (one e) ≡ marks ρ (x₁.lines - 1) false (two e)
        → At p j₁ j₂ (stopAfter begin x₁.lines (l ∷ one e)) (stopAfter begin x₁.lines (l ∷ two e))
        → Corresponding p j₁ j₂ (linePieces ρ (begin + length l.content) ms₁ (one e)) (linePieces ρ (begin + length l.content) ms₁ (two e))
        → Found (l ∷ e) i (blockFirst k x₁ ∷ ms₁) (blockFirst k x₂ ∷ ms₂)
    unfolding linePieces goesOn
    block-found same m s c =
        record {
          same-marks = ap (λ (ms : List Mark). blockFirst k x₁ ∷ ms) m ∙ ap (λ (x : Extent). blockFirst k x ∷ marks ρ (x.lines - 1) false (two e)) same;
          same-text = refl;
          text-size = omega arith;
          same-pieces = next (early begin (omega arith)) s c;
        }

    -- it encloses the private lines
    here : (leb k 5 && x₁.closed) ≡ true → suc j₁ ≤ stopAfter begin x₁.lines (l ∷ one e) → Found (l ∷ e) i (blockFirst k x₁ ∷ ms₁) (blockFirst k x₂ ∷ ms₂)
    here low far =
        let low' : k ≤ 5 = leb-true k 5 (and_parts (leb k 5) x₁.closed low).0 in
        let same : x₁ ≡ x₂ = extent-over ρ k low' back l e a b r in
        let m = x₁.lines - 1 in
        let some : x₁.lines ≡ suc m = extent-some ρ k l (one e) in
        let size-a = sizes-append e a in
        let size-b = sizes-append e b in
        let length-a = length-append e a in
        let length-b = length-append e b in
        let number = same-number r in
        let join-a : one e ≡ (e ++ a) ++ back = sym (append_assoc e a back) in
        let join-b : two e ≡ (e ++ b) ++ back = sym (append_assoc e b back) in
        let first-is : stopAfter begin x₁.lines (l ∷ one e) ≡ stopAfter begin (suc m) (l ∷ ((e ++ a) ++ back)) =
        ap (λ (n : ℕ). stopAfter begin n (l ∷ one e)) some ∙ ap (λ (ls : List Line). stopAfter begin (suc m) (l ∷ ls)) join-a in
        let reach : length (e ++ a) ≤ m =
        split (ltb m (length (e ++ a)))
        (λ t.
        let w = stop-bound (e ++ a) back m begin l (ltb-true m (length (e ++ a)) t) in
        absurd (omega arith))
        (λ t. omega (arith, ltb-false m (length (e ++ a)) t)) in
        let s₁ : stopAfter begin x₁.lines (l ∷ one e) ≡ j₁ + stopAfter 0 (suc (m - length (e ++ a))) (empty ∷ back) =
        first-is
        ∙ stop-through (e ++ a) back m begin l reach
        ∙ stop-from (suc (m - length (e ++ a))) (empty ∷ back) (begin + length l.content + sizes (e ++ a))
        ∙ ap (λ (n : ℕ). n + stopAfter 0 (suc (m - length (e ++ a))) (empty ∷ back)) (omega arith) in
        let s₂ : stopAfter begin x₁.lines (l ∷ two e) ≡ j₂ + stopAfter 0 (suc (m - length (e ++ a))) (empty ∷ back) =
        ap (λ (n : ℕ). stopAfter begin n (l ∷ two e)) some
        ∙ ap (λ (ls : List Line). stopAfter begin (suc m) (l ∷ ls)) join-b
        ∙ stop-through (e ++ b) back m begin l (omega arith)
        ∙ stop-from (suc (m - length (e ++ b))) (empty ∷ back) (begin + length l.content + sizes (e ++ b))
        ∙ ap (λ (n : ℕ). n + stopAfter 0 (suc (m - length (e ++ b))) (empty ∷ back)) (omega arith)
        ∙ ap (λ (n : ℕ). j₂ + stopAfter 0 (suc (m - n)) (empty ∷ back)) (omega arith) in
        block-found same (covered-marks ρ back e a b m false (omega arith) r)
        (late-at (stopAfter 0 (suc (m - length (e ++ a))) (empty ∷ back)) s₁ s₂)
        (covered-pieces ρ back p j₁ j₂ e a b m false (begin + length l.content) (omega arith) (omega arith) (omega arith) r)

    -- a later one does: this one ends before it
    later : Encloses (begin + length l.content) ms₁ e → Claim e (begin + length l.content) ms₁ (marks ρ (x₁.lines - 1) false (two e))
        → Found (l ∷ e) i (blockFirst k x₁ ∷ ms₁) (blockFirst k x₂ ∷ ms₂)
    later enc ih =
        let m = x₁.lines - 1 in
        let some : x₁.lines ≡ suc m = extent-some ρ k l (one e) in
        let ends : m < length e = short e m false (begin + length l.content) (omega arith) enc in
        let w = ih enc in
        let s : stopAfter begin x₁.lines (l ∷ one e) ≡ stopAfter begin x₁.lines (l ∷ two e) = rw some (stop-within e (a ++ back) (b ++ back) m begin l ends) in
        let bound : stopAfter begin x₁.lines (l ∷ one e) ≤ begin + length l.content + sizes e = rw some (stop-bound e (a ++ back) m begin l ends) in
        block-found (extent-within ρ k l e (a ++ back) (b ++ back) ends) w.same-marks (early-at (omega arith) s) w.same-pieces

    block-claim : Claim e (begin + length l.content) ms₁ (marks ρ (x₁.lines - 1) false (two e)) → Claim (l ∷ e) i (blockFirst k x₁ ∷ ms₁) (blockFirst k x₂ ∷ ms₂)
    unfolding linePieces any
    block-claim ih enc =
        let stop = stopAfter begin x₁.lines (l ∷ one e) in
        split ((leb k 5 && x₁.closed) && (ltb begin (suc p) && leb (suc j₁) stop))
        (λ t.
        let u = (and_parts (leb k 5 && x₁.closed) (ltb begin (suc p) && leb (suc j₁) stop) t).1 in
        here (and_parts (leb k 5 && x₁.closed) (ltb begin (suc p) && leb (suc j₁) stop) t).0 (leb-true (suc j₁) stop (and_parts (ltb begin (suc p)) (leb (suc j₁) stop) u).1))
        (λ t. later (rw t at enc) ih)

  pub found : (e : List Line) (n : ℕ) (par : Bool) (i : ℕ) → i + sizes e ≡ at → Claim e i (marks ρ n par (one e)) (marks ρ n par (two e))
  unfolding marks
  found [] n par i h = λ k. clash (any (encloses (suc p) (suc j₁)) (linePieces ρ i (marks ρ n par (one [])) (one []))) k (none-behind ρ (suc p) (suc j₁) (marks ρ n par (one [])) (one []) i (omega arith))
  found (l ∷ e) (suc n) par i h = more-claim l e i _ _ (found e n false (i + length l.lead + length l.content) (omega arith)) h
  found (l ∷ e) zero par i h =
      let k = i + length l.lead + length l.content in
      choose-claim (eqb (kindOf ρ l) 0) (l ∷ e) i _ _ _ _
      (choose-claim (isBlank l.content) (l ∷ e) i _ _ _ _ (blank-claim l e i _ _ (found e zero false k (omega arith)) h)
      (choose-claim par (l ∷ e) i _ _ _ _ (further-claim l e i _ _ (found e zero true k (omega arith)) h) (paragraph-claim l e i _ _ (found e zero true k (omega arith)) h)))
      (block-claim l e i (kindOf ρ l) h (found e ((extentOf ρ (kindOf ρ l) l (one e)).lines - 1) false k (omega arith)))
