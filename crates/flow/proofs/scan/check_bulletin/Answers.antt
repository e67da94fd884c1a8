-- The checks run down the table of docs/SCOPE.md: each return passes those before it.
use Rattle.std.proofs.Common.{◌≡◌, sym, ◌∙◌, ap, true, false, not, List, ℕ, eqb, leb, ltb, length, eq-eqb, ne_eqb}
use Rattle.lexical.specs.Text.{limit}
use Rattle.lexical.specs.Line.{lines}
use Rattle.lexical.specs.Name.{all}
use Rattle.rules.specs.Refusal.{bulletinRefusal}
use Rattle.rules.proofs.Refusals.{applies, passes, no-more}
use Rattle.flow.proofs.scan.check_bulletin.Goals as goal

-- the tests as the code makes them: over the limit, the number of lines, and whether all are flags
module _ (text flags : List ℕ) where
  refuses-long : ltb limit (length text) ≡ true → bulletinRefusal text flags ≡ 1
  unfolding bulletinRefusal
  refuses-long h = applies _ 1 _ h

  module _ (short : ltb limit (length text) ≡ false) (n : ℕ) (counted : n ≡ lines text) where
    refuses-count : (length flags ≡ n → ⊥) → bulletinRefusal text flags ≡ 2
    unfolding bulletinRefusal
    refuses-count h = passes _ 1 _ short ∙ applies _ 2 _ (ap not (ne_eqb _ _ (λ t. h (t ∙ sym counted))))

    module _ (agreed : length flags ≡ n) where
      right-count : not (eqb (length flags) (lines text)) ≡ false
      right-count = ap not (eq-eqb _ _ (agreed ∙ counted))

      refuses-flag : not (all (λ f. leb f 3) flags) ≡ true → bulletinRefusal text flags ≡ 3
      unfolding bulletinRefusal
      refuses-flag h = passes _ 1 _ short ∙ passes _ 2 _ right-count ∙ applies _ 3 _ h

      refuses-nothing : not (all (λ f. leb f 3) flags) ≡ false → bulletinRefusal text flags ≡ 0
      unfolding bulletinRefusal
      refuses-nothing h = passes _ 1 _ short ∙ passes _ 2 _ right-count ∙ passes _ 3 _ h ∙ no-more

pub returns-then-is_over_limit : goal.returns-then-is_over_limit
returns-then-is_over_limit c = let a = c.args in sym (refuses-long a.bulletin.now a.flags.now (sym c.is_over_limit.ensures ∙ c.if-is_over_limit.true))

pub returns-then-flags-count_lines : goal.returns-then-flags-count_lines
returns-then-flags-count_lines c = let a = c.args in
    sym (refuses-count a.bulletin.now a.flags.now (sym c.is_over_limit.ensures ∙ c.if-is_over_limit.false) _ c.count_lines.ensures c.if-flags-count_lines.true)

pub returns-then-not-are_flags : goal.returns-then-not-are_flags
returns-then-not-are_flags c = let a = c.args in
    sym (refuses-flag a.bulletin.now a.flags.now (sym c.is_over_limit.ensures ∙ c.if-is_over_limit.false) _ c.count_lines.ensures c.if-flags-count_lines.false (ap not (sym c.are_flags.ensures ∙ c.if-not-are_flags.true)))

pub returns : goal.returns
returns c = let a = c.args in
    sym (refuses-nothing a.bulletin.now a.flags.now (sym c.is_over_limit.ensures ∙ c.if-is_over_limit.false) _ c.count_lines.ensures c.if-flags-count_lines.false (ap not (sym c.are_flags.ensures ∙ c.if-not-are_flags.false)))
