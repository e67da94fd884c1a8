-- Where the last of the lines of a text has no bytes: the text is empty, or its last byte belongs to a line ending.
use Rattle.std.proofs.Common.{◌≡◌, refl, sym, ◌∙◌, ap, Bool, true, false, ◌&&◌, not, List, [], ◌∷◌, ℕ, suc, ◌+◌, ◌-◌, ◌<◌, ◌≤◌, arith, eqb, leb, length, take, drop, get_or, length-drop, get_or-drop, get_or-take, length-take-le, eqb-true, ne_eqb}
use Rattle.lexical.specs.Text.{byte}
use Rattle.lexical.specs.Byte.{isLineEndingByte}
use Rattle.lexical.specs.Line.{lineEnding}
use Rattle.lexical.proofs.Cases.{split}
use Rattle.rules.specs.Lines.{Line, line, push, cutLines}
use Rattle.rules.specs.Trace.{endsEmpty, taken, flowExit}
use Rattle.rules.proofs.LineLaws.{some-lines}
use Rattle.lexical.proofs.Ending.{ending-length}

later : (l : Line) (ls : List Line) → 0 < length ls → endsEmpty (l ∷ ls) ≡ endsEmpty ls
unfolding endsEmpty
later l [] h = absurd (omega arith)
later l (m ∷ ms) h = refl

-- only the first line gets longer
pushed : (x y : ℕ) (ls : List Line) → endsEmpty (push x (push y ls)) ≡ endsEmpty (push y ls)
unfolding endsEmpty
pushed x y [] = refl
pushed x y (l ∷ []) = ne_eqb (suc (suc (length l.content))) 0 (λ z. omega arith) ∙ sym (ne_eqb (suc (length l.content)) 0 (λ z. omega arith))
pushed x y (l ∷ m ∷ ms) = refl

-- the last byte belongs to a line ending; b: the answer for no bytes
abbrev lastEnds : Bool → List ℕ → Bool
lastEnds b [] = b
lastEnds b (x ∷ xs) = lastEnds (isLineEndingByte x) xs

over : (cr : Bool) (l : Line) (e s : List ℕ) → endsEmpty (l ∷ cutLines cr e s) ≡ endsEmpty (cutLines cr e s)
over cr l e s = later l (cutLines cr e s) (some-lines cr e s)

-- of all lines, and of those with a byte in front
both : (s : List ℕ)
    → ((cr : Bool) (e : List ℕ) → endsEmpty (cutLines cr e s) ≡ lastEnds true s)
    × ((x : ℕ) (e : List ℕ) → endsEmpty (push x (cutLines false e s)) ≡ lastEnds false s)
unfolding cutLines endsEmpty
both [] = (λ cr e. refl, λ x e. refl)
both (y ∷ ys) = (
  λ cr e. split (eqb y (byte "\n"))
      (λ h. rw (eqb-true y (byte "\n") h)
      (split cr (λ r. rw r ((both ys).0 false (byte "\r" ∷ byte "\n" ∷ []))) (λ r. rw r (over false (line 0 e []) (byte "\n" ∷ []) ys ∙ (both ys).0 false (byte "\n" ∷ [])))))
      (λ h. split (eqb y (byte "\r"))
      (λ r. rw (eqb-true y (byte "\r") r) (over true (line 0 e []) (byte "\r" ∷ []) ys ∙ (both ys).0 true (byte "\r" ∷ [])))
      (λ r. simp (h, r) ((both ys).1 y e))),
  λ x e. split (eqb y (byte "\n"))
      (λ h. rw (eqb-true y (byte "\n") h) (over false (line 0 e (x ∷ [])) (byte "\n" ∷ []) ys ∙ (both ys).0 false (byte "\n" ∷ [])))
      (λ h. split (eqb y (byte "\r"))
      (λ r. rw (eqb-true y (byte "\r") r) (over true (line 0 e (x ∷ [])) (byte "\r" ∷ []) ys ∙ (both ys).0 true (byte "\r" ∷ [])))
      (λ r. simp (h, r) (pushed x y (cutLines false e ys) ∙ (both ys).1 y e))),
)

last-byte : (b : Bool) (s : List ℕ) → 0 < length s → lastEnds b s ≡ isLineEndingByte (get_or s (length s - 1) 0)
last-byte b [] h = absurd (omega arith)
last-byte b (x ∷ []) h = refl
last-byte b (x ∷ y ∷ ys) h =
    let e : suc (suc (length ys)) - 1 ≡ suc (suc (length ys) - 1) = omega arith in
    last-byte (isLineEndingByte x) (y ∷ ys) (omega arith) ∙ rw e

module _ (text : List ℕ) (start stop : ℕ) where
  pub empty-here : start ≡ stop → endsEmpty (taken text start stop) ≡ true
  empty-here e = let z : stop - start ≡ 0 = omega arith in ap (λ n. endsEmpty (cutLines false [] (take n (drop start text)))) z ∙ (both []).0 false []

  pub empty-behind : start < stop → stop ≤ length text → endsEmpty (taken text start stop) ≡ isLineEndingByte (get_or text (stop - 1) 0)
  empty-behind l h =
      let n = stop - start in
      let s = take n (drop start text) in
      let len : length s ≡ n = length-take-le n (drop start text) (rw length-drop (omega arith)) in
      let at : start + (n - 1) ≡ stop - 1 = omega arith in
      (both s).0 false [] ∙ last-byte true s (omega arith)
      ∙ ap (λ m. isLineEndingByte (get_or s (m - 1) 0)) len
      ∙ ap isLineEndingByte (get_or-take n (drop start text) (n - 1) 0 (omega arith) ∙ get_or-drop start text (n - 1) 0 ∙ ap (λ m. get_or text m 0) at)

-- ---- where a block is left
module _ (text : List ℕ) (start kind stop : ℕ) (closed : Bool) where
  pub exit-late : leb kind 5 ≡ false → flowExit text start kind stop closed ≡ stop
  unfolding flowExit
  exit-late h = rw h

  module _ (h : leb kind 5 ≡ true) where
    pub exit-closed : closed ≡ true → flowExit text start kind stop closed ≡ stop
    unfolding flowExit
    exit-closed c = rw (h, c)

    pub exit-far : closed ≡ false → endsEmpty (taken text start stop) ≡ true → flowExit text start kind stop closed ≡ stop + lineEnding (drop stop text)
    unfolding flowExit
    exit-far c e = rw (h, c, e)

    pub exit-near : closed ≡ false → endsEmpty (taken text start stop) ≡ false → flowExit text start kind stop closed ≡ stop
    unfolding flowExit
    exit-near c e = rw (h, c, e)

  -- at the stop or behind it
  pub exit-from : stop ≤ flowExit text start kind stop closed
  unfolding flowExit
  exit-from = split (leb kind 5 && (not closed && endsEmpty (taken text start stop))) (λ t. rw t (omega arith)) (λ t. rw t (omega arith))

  pub exit-to : stop ≤ length text → flowExit text start kind stop closed ≤ length text
  unfolding flowExit
  exit-to h =
      split (leb kind 5 && (not closed && endsEmpty (taken text start stop))) (λ t. rw t (omega (arith, ending-length (drop stop text), length-drop stop text))) (λ t. rw t (omega arith))
