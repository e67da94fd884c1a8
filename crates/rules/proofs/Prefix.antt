-- A word stands in front of a text where all of its bytes are counted there; of one byte and of two parts it is said in other words.
use Rattle.std.proofs.Common.{◌≡◌, refl, sym, ◌∙◌, ap, false, ◌&&◌, List, [], ◌∷◌, ◌++◌, ℕ, suc, ◌+◌, arith, eqb, length, drop, eqb-true, eq-eqb, ne_eqb}
use Rattle.std.proofs.Math.Bool.{and-true}
use borrow.Author.Tests.{eqb-false}
use Rattle.lexical.specs.Text.{none, first}
use Rattle.lexical.specs.Name.{cdataPrefix, matched, cdataLetters}
use Rattle.lexical.proofs.Cases.{split}
use Rattle.lexical.proofs.Prefix.{cdata-size}
use Rattle.rules.specs.Search.{begins}

suc-same : (a b : ℕ) → eqb (suc a) (suc b) ≡ eqb a b
suc-same a b =
    split (eqb a b) (λ e. eq-eqb (suc a) (suc b) (ap suc (eqb-true a b e)) ∙ sym e) (λ e. ne_eqb (suc a) (suc b) (λ z. eqb-false a b e (omega arith)) ∙ sym e)

matched-whole : (p s : List ℕ) → eqb (matched p s) (length p) ≡ begins p s
unfolding matched
matched-whole [] s = refl
matched-whole (p ∷ ps) [] = ne_eqb 0 (suc (length ps)) (λ z. omega arith)
matched-whole (p ∷ ps) (x ∷ xs) =
    split (eqb x p) (λ e. simp e (suc-same (matched ps xs) (length ps) ∙ matched-whole ps xs)) (λ e. simp e (ne_eqb 0 (suc (length ps)) (λ z. omega arith)))

pub cdata-whole : (s : List ℕ) → eqb (cdataLetters 0 s) 6 ≡ begins cdataPrefix s
unfolding cdataLetters
cdata-whole s =
    let m : ℕ = matched cdataPrefix s in
    let z : 0 + m ≡ m = omega arith in
    ap (λ n. eqb n 6) z ∙ ap (eqb m) (sym cdata-size) ∙ matched-whole cdataPrefix s

-- a word of one byte
pub one-first : (p : ℕ) (s : List ℕ) → eqb none p ≡ false → begins (p ∷ []) s ≡ eqb (first s) p
one-first p [] e = sym e
one-first p (x ∷ xs) e = and-true (eqb x p)

-- a word of two parts
pub begins-parts : (p q s : List ℕ) → begins (p ++ q) s ≡ (begins p s && begins q (drop (length p) s))
begins-parts [] q s = refl
begins-parts (p ∷ ps) q [] = refl
begins-parts (p ∷ ps) q (x ∷ xs) = split (eqb x p) (λ e. simp e (begins-parts ps q xs)) (λ e. simp e)
