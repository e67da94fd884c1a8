-- Whether a line contains a closer, by a search: a closer has bytes, so it begins before the line's end exactly where the search meets one.
use Rattle.std.proofs.Common.{◌≡◌, refl, sym, ◌∙◌, ap, Bool, true, false, ◌&&◌, ◌||◌, not, List, [], ◌∷◌, ℕ, suc, ◌%◌, arith, eqb, ltb, length, eqb-true, eq-eqb, ne_eqb, lt-ltb, le-ltb, ltb-true, ltb-false}
use Rattle.std.proofs.Math.Bool.{and-false, and-true}
use Rattle.lexical.specs.Text.{byte, bytes}
use Rattle.lexical.proofs.Cases.{split}
use Rattle.rules.specs.Search.{choose, begins, somewhere, before}
use Rattle.rules.specs.Block.{isRawEnd, beforeEven, beforeCloser, closes}
use Rattle.rules.specs.declared.Rules.{Rules}

-- one byte more on both sides
more : (a b : ℕ) → ltb (suc a) (suc b) ≡ ltb a b
more a b = split (ltb a b) (λ t. let l = ltb-true a b t in lt-ltb (suc a) (suc b) (omega arith) ∙ sym t) (λ t. let l = ltb-false a b t in le-ltb (suc a) (suc b) (omega arith) ∙ sym t)

before-within : (f : List ℕ → Bool) (s : List ℕ) → ltb (before f s) (length s) ≡ somewhere f s
unfolding before somewhere
before-within f [] = refl
before-within f (x ∷ xs) = split (f (x ∷ xs)) (λ h. rw h (lt-ltb 0 (suc (length xs)) (omega arith))) (λ h. rw h (more (before f xs) (length xs) ∙ before-within f xs))

-- F1 by its run of `]`, of which n stand just before s
unfoldable pub closesEven : ℕ → List ℕ → Bool
closesEven n [] = false
closesEven n (x ∷ xs) =
    choose (eqb x (byte "]")) (λ _. closesEven (suc n) xs)
    (λ _. (eqb x (byte ">") && (not (eqb n 0) && eqb (n % 2) 0)) || closesEven 0 xs)

abbrev Within : ℕ → List ℕ → Bool
Within n s = ltb (beforeEven n s) (length s)

-- by how many `]` stand just before: an even number, of which two or more close at `>`, or an odd one
abbrev Evenly : List ℕ → Type 0
Evenly s = (n : ℕ) → n % 2 ≡ 0 → closesEven n s ≡ ((begins (bytes ">") s && not (eqb n 0)) || Within n s)

abbrev Oddly : List ℕ → Type 0
Oddly s = (n : ℕ) → n % 2 ≡ 1 → closesEven n s ≡ (begins (bytes "]>") s || Within n s)

zero-is : (s : List ℕ) → Evenly s → closesEven 0 s ≡ Within 0 s
zero-is s a = a 0 refl ∙ ap (λ b. b || Within 0 s) (and-false (begins (bytes ">") s))

even-after : (s : List ℕ) (n : ℕ) → n % 2 ≡ 1 → Evenly s → closesEven (suc n) s ≡ (begins (bytes ">") s || Within (suc n) s)
even-after s n o a =
    a (suc n) (omega arith) ∙ ap (λ b. (begins (bytes ">") s && not b) || Within (suc n) s) (ne_eqb (suc n) 0 (λ z. omega arith)) ∙ ap (λ b. b || Within (suc n) s) (and-true (begins (bytes ">") s))

odd-step : (x : ℕ) (xs : List ℕ) → Evenly xs → Oddly (x ∷ xs)
unfolding closesEven beforeEven
odd-step x xs a n o =
    let e : eqb (n % 2) 0 ≡ false = ne_eqb (n % 2) 0 (λ z. omega arith) in
    split (eqb x (byte "]"))
    (λ h. simp (h, e, and-false, more) (even-after xs n o a))
    (λ h. simp (h, e, and-false, more) (zero-is xs a))

even-step : (x : ℕ) (xs : List ℕ) → Evenly xs → Oddly xs → Evenly (x ∷ xs)
unfolding closesEven beforeEven
even-step x xs a b n o =
    let e : eqb (n % 2) 0 ≡ true = eq-eqb (n % 2) 0 o in
    split (eqb x (byte "]"))
    (λ h. let g : eqb x (byte ">") ≡ false = rw (eqb-true x (byte "]") h) refl in
    split (begins (bytes "]>") xs)
    (λ t. let u = b (suc n) (omega arith) in simp (h, e, g, t) (u ∙ ap (λ c. c || Within (suc n) xs) t ∙ sym (lt-ltb 0 (suc (length xs)) (omega arith))))
    (λ t. let u = b (suc n) (omega arith) in simp (h, e, g, t, more) (u ∙ ap (λ c. c || Within (suc n) xs) t)))
    (λ h. split (eqb x (byte ">"))
    (λ g. simp (h, e, g, and-true, more) (ap (λ c. not (eqb n 0) || c) (zero-is xs a)))
    (λ g. simp (h, e, g, more) (zero-is xs a)))

even-all : (s : List ℕ) → Evenly s × Oddly s
unfolding closesEven beforeEven
even-all [] = ((λ n o. refl), (λ n o. refl))
even-all (x ∷ xs) = let ih = even-all xs in (even-step x xs ih.0 ih.1, odd-step x xs ih.0)

even-within : (s : List ℕ) → ltb (beforeEven 0 s) (length s) ≡ closesEven 0 s
even-within s = sym (zero-is s (even-all s).0)

-- a line contains the closer, by a search
pub closes-is : (ρ : Rules) (k : ℕ) (s : List ℕ) → closes ρ k s
    ≡ choose (eqb k 1) (λ _. somewhere isRawEnd s)
    (λ _. choose (eqb k 2) (λ _. somewhere (begins (bytes "-->")) s)
    (λ _. choose (eqb k 3) (λ _. somewhere (begins (bytes "?>")) s)
    (λ _. choose (eqb k 4) (λ _. somewhere (begins (bytes ">")) s)
    (λ _. choose (eqb k 5) (λ _. choose ρ.f1 (λ _. closesEven 0 s) (λ _. somewhere (begins (bytes "]]>")) s))
    (λ _. false)))))
unfolding closes beforeCloser
closes-is ρ k s =
    split (eqb k 1) (λ a. simp a (before-within isRawEnd s))
    (λ a. split (eqb k 2) (λ b. simp (a, b) (before-within (begins (bytes "-->")) s))
    (λ b. split (eqb k 3) (λ c. simp (a, b, c) (before-within (begins (bytes "?>")) s))
    (λ c. split (eqb k 4) (λ d. simp (a, b, c, d) (before-within (begins (bytes ">")) s))
    (λ d. split (eqb k 5) (λ e. split ρ.f1 (λ f. simp (a, b, c, d, e, f) (even-within s)) (λ f. simp (a, b, c, d, e, f) (before-within (begins (bytes "]]>")) s)))
    (λ e. simp (a, b, c, d, e) (le-ltb (length s) (length s) (omega arith)))))))
