-- The standard's three alternatives of a comment come to one rule: `<!--`, and the first `-->` that begins at or after the opening's third byte.
use Rattle.std.proofs.Common.{◌≡◌, refl, true, false, List, [], ◌∷◌, ◌++◌, ℕ, eqb, length, drop, eqb-true}
use Rattle.std.proofs.lemmas.Bool.{and_parts}
use Rattle.lexical.specs.Text.{bytes}
use Rattle.lexical.proofs.Cases.{split, clash}
use Rattle.rules.specs.Search.{choose, begins, nothing, throughFirst}
use Rattle.rules.specs.Inline.{comment}

-- a text that begins with p is p and the rest
pub begins-is : (p s : List ℕ) → begins p s ≡ true → s ≡ p ++ drop (length p) s
begins-is [] s h = refl
begins-is (p ∷ ps) [] h = cc
begins-is (p ∷ ps) (x ∷ xs) h = cc (eqb-true x p (and_parts (eqb x p) (begins ps xs) h).0, begins-is ps xs (and_parts (eqb x p) (begins ps xs) h).1)

-- a text that does not begin with p begins with nothing longer
pub begins-longer : (p q s : List ℕ) → begins p s ≡ false → begins (p ++ q) s ≡ false
begins-longer [] q s h = clash true refl h
begins-longer (p ∷ ps) q [] h = refl
begins-longer (p ∷ ps) q (x ∷ xs) h = split (eqb x p) (λ e. simp e (begins-longer ps q xs (simp e at h))) (λ e. simp e)

-- behind `<!--`
opened : (t : List ℕ) → comment (bytes "<!--" ++ t) ≡ throughFirst (bytes "-->") (bytes "--" ++ t)
unfolding comment throughFirst
opened t = split (begins (bytes ">") t) (λ a. simp a) (λ a. split (begins (bytes "->") t) (λ b. simp (a, b)) (λ b. simp (a, b)))

not-opened : (s : List ℕ) → begins (bytes "<!--") s ≡ false → comment s ≡ nothing
unfolding comment
not-opened s h = simp (begins-longer (bytes "<!--") (bytes ">") s h, begins-longer (bytes "<!--") (bytes "->") s h, h)

pub comment-is : (s : List ℕ) → comment s ≡ choose (begins (bytes "<!--") s) (λ _. throughFirst (bytes "-->") (drop 2 s)) (λ _. nothing)
comment-is s =
    split (begins (bytes "<!--") s)
    (λ h. let e = begins-is (bytes "<!--") s h in rw e (opened (drop 4 s)))
    (λ h. simp h (not-opened s h))
