-- Laws of a run: a loop that passes the bytes of a class, one law for every class.
use Rattle.std.proofs.Common.{◌≡◌, ℕ, zero, suc, ◌+◌, ◌<◌, ◌≤◌, Bool, true, false, not, ◌&&◌, eqb, List, [], ◌∷◌, length, get_or, take, drop, sym, refl, ap, ◌∙◌, arith, length-drop, drop-drop}
use Rattle.std.proofs.lemmas.List.{drop_all, drop_more}
use Rattle.std.proofs.lemmas.Bool.{and_parts}
use Rattle.std.proofs.Math.Bool.{and-false, and-true, or-true}
use Rattle.std.specs.List.{fold}
use Rattle.lexical.specs.Text.{byte, run}
use Rattle.lexical.specs.Byte.{isLineEndingByte}
use Rattle.lexical.specs.Line.{isInner, lineLength}
use Rattle.lexical.specs.Name.{all}
use Rattle.lexical.proofs.Cases.{split}

-- where the run of a class that begins at an index of a text ends
abbrev pub runEnd : (ℕ → Bool) → List ℕ → ℕ → ℕ
runEnd f s i = i + run f (drop i s)

module _ (f : ℕ → Bool) (s : List ℕ) (i : ℕ) where
  pub run-on : i < length s → f (get_or s i 0) ≡ true → runEnd f s (i + 1) ≡ runEnd f s i
  unfolding run
  run-on h e = rw (drop_more s i 0 h, e) (omega arith)

  pub run-stop : i < length s → f (get_or s i 0) ≡ false → runEnd f s i ≡ i
  unfolding run
  run-stop h e = rw (drop_more s i 0 h, e) (omega arith)

  pub run-over : length s ≤ i → runEnd f s i ≡ i
  unfolding run
  run-over h = rw (drop_all i s h) (omega arith)

-- no more bytes are passed than there are
pub run-length : (f : ℕ → Bool) (s : List ℕ) → run f s ≤ length s
unfolding run
run-length f [] = omega arith
run-length f (x ∷ xs) = split (f x) (λ h. let l = run-length f xs in simp h (omega arith)) (λ h. simp h (omega arith))

-- two classes that are the same
pub run-same : (f g : ℕ → Bool) → ((x : ℕ) → f x ≡ g x) → (s : List ℕ) → run f s ≡ run g s
unfolding run
run-same f g e [] = refl
run-same f g e (x ∷ xs) = split (g x) (λ h. simp (e x ∙ h, h) (ap suc (run-same f g e xs))) (λ h. simp (e x ∙ h, h))

-- what is said of an index and the bytes from there on, and no byte of a class in front changes, is the same behind the class
module _ {A : Type 0} (f : ℕ → Bool) (P : ℕ → List ℕ → A) (e : (i x : ℕ) (xs : List ℕ) → f x ≡ true → P i (x ∷ xs) ≡ P (i + 1) xs) where
  behind : (i : ℕ) (s : List ℕ) → P i s ≡ P (i + run f s) (drop (run f s) s)
  unfolding run
  behind i [] = let z : i + 0 ≡ i = omega arith in rw z
  behind i (x ∷ xs) =
      let z : i + 0 ≡ i = omega arith in
      let o : i + 1 + run f xs ≡ i + suc (run f xs) = omega arith in
      split (f x) (λ h. rw h (e i x xs h ∙ behind (i + 1) xs ∙ ap (λ j. P j (drop (run f xs) xs)) o)) (λ h. rw (h, z))

  pub behind-from : (s : List ℕ) (i j : ℕ) → j ≡ runEnd f s i → P i (drop i s) ≡ P j (drop j s)
  behind-from s i j h = behind i (drop i s) ∙ ap (P (runEnd f s i)) (drop-drop (run f (drop i s)) i s) ∙ ap (λ n. P n (drop n s)) (sym h)

-- and so is what is said of the bytes alone
pub behind-at : {A : Type 0} (f : ℕ → Bool) (P : List ℕ → A) → ((x : ℕ) (xs : List ℕ) → f x ≡ true → P (x ∷ xs) ≡ P xs)
    → (s : List ℕ) (i j : ℕ) → j ≡ runEnd f s i → P (drop i s) ≡ P (drop j s)
behind-at f P e = behind-from f (λ i. P) (λ i. e)

-- ---- several bytes at once
many : (f : ℕ → Bool) (n : ℕ) (s : List ℕ) → n ≤ length s → all f (take n s) ≡ true → run f s ≡ n + run f (drop n s)
unfolding run all
many f zero s l h = omega arith
many f (suc n) [] l h = absurd (omega arith)
many f (suc n) (x ∷ s) l h =
    let e = many f n s (omega arith) (and_parts (f x) (all f (take n s)) h).1 in rw (and_parts (f x) (all f (take n s)) h).0 (omega (arith, e))

pub run-many : (f : ℕ → Bool) (n : ℕ) (s : List ℕ) (i : ℕ) → i + n ≤ length s → all f (take n (drop i s)) ≡ true → runEnd f s (i + n) ≡ runEnd f s i
run-many f n s i l h =
    let e = many f n (drop i s) (omega (arith, length-drop i s)) h in
    let d : run f (drop n (drop i s)) ≡ run f (drop (i + n) s) = ap (run f) (drop-drop n i s) in
    omega (arith, e, d)

-- all pass where the test of each, joined to those before it, is true
pub folded : {A : Type 0} (f : A → Bool) (t : Bool) (s : List A) → fold (λ r x. r && f x) t s ≡ (t && all f s)
unfolding all
folded f t [] = sym (and-true t)
folded f true (x ∷ s) = folded f (f x) s
folded f false (x ∷ s) = folded f false s

-- ---- three tests for all bytes, or three for each of them
-- no byte is another
abbrev pub others : ℕ → List ℕ → Bool
others mark s = all (λ b. not (eqb b mark)) s

pub all-inner : (mark : ℕ) (s : List ℕ) → all (isInner mark) s ≡ (others mark s && (others (byte "\n") s && others (byte "\r") s))
unfolding all
all-inner mark [] = refl
all-inner mark (x ∷ xs) =
    split (eqb x mark) (λ h. simp h)
    (λ h. split (eqb x (byte "\n")) (λ l. simp (h, l) (sym (and-false (others mark xs))))
    (λ l. split (eqb x (byte "\r")) (λ r. simp (h, l, r) (sym (ap (λ b. others mark xs && b) (and-false (others (byte "\n") xs)) ∙ and-false (others mark xs))))
    (λ r. simp (h, l, r) (all-inner mark xs))))

-- ---- a line ends where it does, seen from a mark in it
inner-line : (mark i x : ℕ) (xs : List ℕ) → isInner mark x ≡ true → i + lineLength (x ∷ xs) ≡ i + 1 + lineLength xs
unfolding run
inner-line mark i x xs h =
    split (isLineEndingByte x) (λ e. let z : false ≡ true = simp (e, or-true (eqb x mark)) at h in cc)
    (λ e. let z : i + suc (lineLength xs) ≡ i + 1 + lineLength xs = omega arith in simp e z)

pub line-end-behind : (mark : ℕ) (s : List ℕ) (i j : ℕ) → j ≡ runEnd (isInner mark) s i → i + lineLength (drop i s) ≡ j + lineLength (drop j s)
line-end-behind mark = behind-from (isInner mark) (λ i s. i + lineLength s) (inner-line mark)
