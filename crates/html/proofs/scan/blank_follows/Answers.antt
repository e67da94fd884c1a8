use Rattle.std.proofs.Common.{ℕ, ◌≡◌, Bool, false, List, drop, Option, Some, None, MatchOption, unwrap_or, sym, ap, ◌∙◌}
use Rattle.lexical.specs.Byte.{isLineEndingByte}
use Rattle.lexical.specs.Text.{none, first}
use Rattle.html.proofs.Blank.{blank-in, blank-no}
use Rattle.html.proofs.scan.blank_follows.Goals as goal

met : (r : Option ℕ) (s : List ℕ) (b : Bool) → unwrap_or r none ≡ first s → MatchOption r (b ≡ false) (λ x. b ≡ isLineEndingByte x) → b ≡ isLineEndingByte (first s)
met None s b e h = h ∙ ap isLineEndingByte e
met (Some x) s b e h = h ∙ ap isLineEndingByte e

pub returns-then-ends_line : goal.returns-then-ends_line
returns-then-ends_line c = let a = c.args in
    met c.peek.result (drop c.space_or_tab_end.result a.text.now) _ c.peek.ensures c.is_some_and.ensures
    ∙ ap (λ j. isLineEndingByte (first (drop j a.text.now))) c.space_or_tab_end.ensures
    ∙ blank-in a.text.now a.index (sym c.ends_line.ensures ∙ c.if-ends_line.true)

pub returns : goal.returns
returns c = let a = c.args in sym (blank-no a.text.now a.index (sym c.ends_line.ensures ∙ c.if-ends_line.false))
