-- How much of a word stands in front of a text: as many bytes as the pairs of the two are alike. The CDATA prefix is such a word, of six bytes.
use Rattle.std.proofs.Common.{◌≡◌, ℕ, ◌+◌, ◌<◌, ◌≤◌, min, Bool, eqb, ltb, List, [], ◌∷◌, length, get_or, drop, refl, arith, length-drop, drop_of_length-le, ltb-true, ltb-false}
use Rattle.std.proofs.lemmas.List.{drop_all, drop_more}
use Rattle.std.specs.List.{zip, prefix_len}
use Rattle.lexical.specs.Text.{pick, first}
use Rattle.lexical.specs.Name.{cdataPrefix, matched, cdataLetters}
use Rattle.lexical.proofs.Cases.{split}
use Rattle.lexical.proofs.Suffix.{first-in}

pub matched-none : (p : List ℕ) → matched p [] ≡ 0
unfolding matched
matched-none [] = refl
matched-none (p ∷ ps) = refl

pub matched-most : (p s : List ℕ) → matched p s ≤ length p
unfolding matched
matched-most [] s = omega arith
matched-most (p ∷ ps) [] = omega arith
matched-most (p ∷ ps) (x ∷ xs) = split (eqb x p) (λ e. simp e (omega (arith, matched-most ps xs))) (λ e. simp e (omega arith))

-- a byte and the one of the word are alike
abbrev pub alike : ℕ × ℕ → Bool
alike pair = eqb pair.1 pair.0

pub matched-pairs : (p s : List ℕ) → prefix_len alike (zip p s) ≡ matched p s
unfolding matched
matched-pairs [] s = refl
matched-pairs (p ∷ ps) [] = refl
matched-pairs (p ∷ ps) (x ∷ xs) = split (eqb x p) (λ e. let m = matched-pairs ps xs in simp e (omega (arith, m))) (λ e. simp e)

-- nothing stands behind the end of a list
pub drop-least : (s : List ℕ) (k : ℕ) → drop (min k (length s)) s ≡ drop k s
drop-least s k =
    split (ltb k (length s)) (λ t. let l = ltb-true k (length s) t in let z : min k (length s) ≡ k = omega arith in rw z refl)
    (λ t. let l = ltb-false k (length s) t in let z : min k (length s) ≡ length s = omega arith in rw (z, drop_of_length-le s l, drop_of_length-le s {i = length s} (omega arith)) refl)

-- ---- the CDATA prefix
pub cdata-size : length cdataPrefix ≡ 6
unfolding cdataPrefix
cdata-size = refl

pub letters-most : (k : ℕ) (s : List ℕ) → k ≤ 6 → cdataLetters k s ≤ 6
unfolding cdataLetters
letters-most k s h = omega (arith, matched-most (drop k cdataPrefix) s, length-drop k cdataPrefix, cdata-size)

pub letters-over : (k : ℕ) (s : List ℕ) → 6 ≤ k → cdataLetters k s ≡ k
unfolding cdataLetters matched
letters-over k s h = rw (drop_all k cdataPrefix (omega (arith, cdata-size))) (omega arith)

-- of one byte
pub letters-one : (k b : ℕ) → k < 6 → cdataLetters k (b ∷ []) ≡ pick (eqb b (first (drop k cdataPrefix))) (k + 1) k
unfolding cdataLetters matched
letters-one k b h =
    let l : k < length cdataPrefix = omega (arith, cdata-size) in
    rw (first-in cdataPrefix k l, drop_more cdataPrefix k 0 l, matched-none (drop (k + 1) cdataPrefix))
    (split (eqb b (get_or cdataPrefix k 0)) (λ e. simp e) (λ e. simp e (omega arith)))
