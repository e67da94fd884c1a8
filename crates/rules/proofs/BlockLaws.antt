-- A found block by its lines: what the rules give, by the next line; and that its closer tells whether one was met.
use Rattle.std.proofs.Common.{◌≡◌, refl, sym, ap, subst, Bool, true, false, ◌&&◌, List, [], ◌∷◌, ℕ, zero, suc, ◌+◌, ◌%◌, ◌<◌, ◌≤◌, arith, eqb, length, ltb-true, ltb-false, lt-ltb, le-ltb}
use Rattle.lexical.specs.Text.{byte, bytes}
use Rattle.lexical.proofs.Cases.{split}
use Rattle.rules.specs.Search.{begins, before}
use Rattle.rules.specs.Lines.{Line}
use Rattle.rules.specs.Block.{isRawEnd, beforeEven, beforeCloser, closes, endsBefore, goesOn, kindOf, placeOf, extentOf, inLast, closerAfter}
use Rattle.rules.specs.Scan.{Found, found, foundBlock, noBlock, blockFound, blockOf}
use Rattle.rules.specs.Closers.{Tells, CloserTells}
use Rattle.rules.specs.declared.Rules.{Rules}
use Rattle.rules.proofs.LineLaws.{stopFrom, stop-is}

-- ---- no more bytes stand before a closer than the line has
before-most : (f : List ℕ → Bool) (s : List ℕ) → before f s ≤ length s
unfolding before
before-most f [] = omega arith
before-most f (x ∷ xs) = split (f (x ∷ xs)) (λ h. rw h (omega arith)) (λ h. let m = before-most f xs in rw h (omega arith))

even-most : (n : ℕ) (s : List ℕ) → beforeEven n s ≤ length s
unfolding beforeEven
even-most n [] = omega arith
even-most n (x ∷ xs) =
    let m = even-most (suc n) xs in
    let o = even-most 0 xs in
    split (begins (bytes "]]>") (x ∷ xs) && eqb (n % 2) 0) (λ h. rw h (omega arith)) (λ h. rw h (split (eqb x (byte "]")) (λ g. rw g (omega arith)) (λ g. rw g (omega arith))))

closer-most : (ρ : Rules) (k : ℕ) (s : List ℕ) → beforeCloser ρ k s ≤ length s
unfolding beforeCloser
closer-most ρ k s =
    split (eqb k 1) (λ a. rw a (before-most isRawEnd s))
    (λ a. split (eqb k 2) (λ b. rw (a, b) (before-most (begins (bytes "-->")) s))
    (λ b. split (eqb k 3) (λ c. rw (a, b, c) (before-most (begins (bytes "?>")) s))
    (λ c. split (eqb k 4) (λ d. rw (a, b, c, d) (before-most (begins (bytes ">")) s))
    (λ d. split (eqb k 5)
    (λ e. split ρ.f1 (λ f. rw (a, b, c, d, e, f) (even-most 0 s)) (λ f. rw (a, b, c, d, e, f) (before-most (begins (bytes "]]>")) s)))
    (λ e. rw (a, b, c, d, e) (omega arith))))))

-- `at` is how many bytes stand before it
module _ (ρ : Rules) (k : ℕ) (s : List ℕ) (at : ℕ) (e : at ≡ beforeCloser ρ k s) where
  pub closes-at : at < length s → closes ρ k s ≡ true
  unfolding closes
  closes-at h = lt-ltb (beforeCloser ρ k s) (length s) (omega arith)

  pub closes-not : length s ≤ at → closes ρ k s ≡ false
  unfolding closes
  closes-not h = le-ltb (beforeCloser ρ k s) (length s) (omega arith)

no-closer : (ρ : Rules) (k : ℕ) (s : List ℕ) → closes ρ k s ≡ false → beforeCloser ρ k s ≡ length s
unfolding closes
no-closer ρ k s h = omega (arith, closer-most ρ k s, ltb-false (beforeCloser ρ k s) (length s) h)

-- ---- where the closer begins in the last of n lines, the line before them ending at stop without one
unfoldable pub closerFrom : Rules → ℕ → ℕ → ℕ → List Line → ℕ
closerFrom ρ k stop zero ls = stop
closerFrom ρ k stop (suc n) [] = stop
closerFrom ρ k stop (suc n) (l ∷ ls) = closerAfter ρ k (stop + length l.lead) (suc n) (l ∷ ls)

closer-is : (ρ : Rules) (k n i : ℕ) (l : Line) (ls : List Line) → closes ρ k l.content ≡ false → closerAfter ρ k i (suc n) (l ∷ ls) ≡ closerFrom ρ k (i + length l.content) n ls
unfolding inLast closerFrom
closer-is ρ k zero i l ls h = ap (λ m. i + m) (no-closer ρ k l.content h)
closer-is ρ k (suc n) i l [] h = ap (λ m. i + m) (no-closer ρ k l.content h)
closer-is ρ k (suc n) i l (m ∷ ls) h = refl

-- ---- the lines behind the first
-- a block whose content so far ends at stop without a closer
abbrev pub goingOn : Rules → ℕ → ℕ → ℕ → List Line → Found
goingOn ρ k name stop ls = found k name (stopFrom stop (goesOn ρ k ls).lines ls) (goesOn ρ k ls).closed (closerFrom ρ k stop (goesOn ρ k ls).lines ls)

module _ (ρ : Rules) (k name : ℕ) where
  pub none-left : (stop : ℕ) → goingOn ρ k name stop [] ≡ found k name stop false stop
  unfolding goesOn stopFrom closerFrom
  none-left stop = refl

  module _ (stop : ℕ) (l : Line) (ls : List Line) where
    pub ended : endsBefore k l ≡ true → goingOn ρ k name stop (l ∷ ls) ≡ found k name stop false stop
    unfolding goesOn stopFrom closerFrom
    ended h = rw h

    pub closed-here : endsBefore k l ≡ false → closes ρ k l.content ≡ true
        → goingOn ρ k name stop (l ∷ ls) ≡ found k name (stop + length l.lead + length l.content) true (stop + length l.lead + beforeCloser ρ k l.content)
    unfolding goesOn stopFrom closerFrom inLast
    closed-here h c = rw (h, c)

    pub one-on : endsBefore k l ≡ false → closes ρ k l.content ≡ false
        → goingOn ρ k name stop (l ∷ ls) ≡ goingOn ρ k name (stop + length l.lead + length l.content) ls
    unfolding goesOn stopFrom closerFrom
    one-on h c = rw (h, c) (rw (closer-is ρ k (goesOn ρ k ls).lines (stop + length l.lead) l ls c))

-- ---- the first line
module _ (ρ : Rules) (k i : ℕ) (l : Line) (ls : List Line) where
  abbrev opened : Found
  opened = blockFound ρ k i l ls (extentOf ρ k l ls)

  pub first-closed : closes ρ k l.content ≡ true → opened ≡ found k (placeOf k l) (i + length l.content) true (i + beforeCloser ρ k l.content)
  unfolding extentOf inLast
  first-closed c = rw c

  pub first-goes : closes ρ k l.content ≡ false → opened ≡ goingOn ρ k (placeOf k l) (i + length l.content) ls
  unfolding extentOf
  first-goes c = rw c (rw (stop-is (goesOn ρ k ls).lines i l ls, closer-is ρ k (goesOn ρ k ls).lines i l ls c))

-- ---- the closer tells
told : {a b : Found} → a ≡ b → Tells b → Tells a
told e t = subst Tells (sym e) t

unclosed : (k name stop : ℕ) → Tells (found k name stop false stop)
unclosed k name stop = record { within = omega arith; closed = sym (le-ltb stop stop (omega arith)) }

closed : (ρ : Rules) (k name i : ℕ) (s : List ℕ) → closes ρ k s ≡ true → Tells (found k name (i + length s) true (i + beforeCloser ρ k s))
unfolding closes
closed ρ k name i s h =
    let l = ltb-true (beforeCloser ρ k s) (length s) h in
    record { within = omega arith; closed = sym (lt-ltb (i + beforeCloser ρ k s) (i + length s) (omega arith)) }

going-tells : (ρ : Rules) (k name : ℕ) (ls : List Line) (stop : ℕ) → Tells (goingOn ρ k name stop ls)
going-tells ρ k name [] stop = told (none-left ρ k name stop) (unclosed k name stop)
going-tells ρ k name (l ∷ ls) stop =
    split (endsBefore k l) (λ e. told (ended ρ k name stop l ls e) (unclosed k name stop))
    (λ e. split (closes ρ k l.content)
    (λ c. told (closed-here ρ k name stop l ls e c) (closed ρ k name (stop + length l.lead) l.content c))
    (λ c. told (one-on ρ k name stop l ls e c) (going-tells ρ k name ls (stop + length l.lead + length l.content))))

opened-tells : (ρ : Rules) (k i : ℕ) (l : Line) (ls : List Line) → Tells (blockFound ρ k i l ls (extentOf ρ k l ls))
opened-tells ρ k i l ls =
    split (closes ρ k l.content) (λ c. told (first-closed ρ k i l ls c) (closed ρ k (placeOf k l) i l.content c))
    (λ c. told (first-goes ρ k i l ls c) (going-tells ρ k (placeOf k l) ls (i + length l.content)))

none-found : (b : Found) → noBlock ≡ foundBlock b → ⊥
none-found b e = let z : ◌≡◌ {A = ℕ} 0 1 = cc in omega arith

pub closer-tells : CloserTells
unfolding blockOf
closer-tells ρ i [] b e = absurd (none-found b e)
closer-tells ρ i (l ∷ ls) b e =
    split (eqb (kindOf ρ l) 0) (λ z. absurd (none-found b (rw z at e)))
    (λ z. let f = rw z at e in let same : b ≡ blockFound ρ (kindOf ρ l) i l ls (extentOf ρ (kindOf ρ l) l ls) = cc in told same (opened-tells ρ (kindOf ρ l) i l ls))
