use Rattle.std.proofs.Common.{◌≡◌, ◌∙◌, ℕ, ◌≤◌, List, arith, leb, leb-true, leb-false, eq-eqb, ne_eqb}
use Rattle.lexical.specs.Name.{cdataLetters}
use Rattle.lexical.proofs.Cases.{split}
use Rattle.lexical.proofs.Prefix.{letters-most, letters-over}
use Rattle.html.specs.TextMachine.{cdataOpenInsideOf}
use Rattle.html.proofs.html_text.cdata_open_inside.Goals as goal

-- more letters than before are six at most
more-most : (n k : ℕ) (s : List ℕ) → n ≡ cdataLetters k s → (n ≡ k → ⊥) → n ≤ 6
more-most n k s e h =
    split (leb k 6) (λ t. omega (arith, e, letters-most k s (leb-true k 6 t)))
    (λ t. absurd (h (e ∙ letters-over k s (omega (arith, leb-false k 6 t)))))

pub returns-then-count-carry : goal.returns-then-count-carry
unfolding cdataOpenInsideOf
returns-then-count-carry c = simp (← c.cdata_letters-count.ensures, eq-eqb _ _ c.if-count-carry.true)

pub returns-then-count-eq-HTML_CDATA_SIZE : goal.returns-then-count-eq-HTML_CDATA_SIZE
unfolding cdataOpenInsideOf
returns-then-count-eq-HTML_CDATA_SIZE c = simp (← c.cdata_letters-count.ensures, ne_eqb _ _ c.if-count-carry.false, eq-eqb _ _ c.if-count-eq-HTML_CDATA_SIZE.true)

pub overflow_cast-letters : goal.overflow_cast-letters
overflow_cast-letters c = omega (arith, more-most _ _ _ c.cdata_letters-count.ensures c.if-count-carry.false)

pub returns : goal.returns
unfolding cdataOpenInsideOf
returns c = simp (← c.cdata_letters-count.ensures, ne_eqb _ _ c.if-count-carry.false, ne_eqb _ _ c.if-count-eq-HTML_CDATA_SIZE.false)
