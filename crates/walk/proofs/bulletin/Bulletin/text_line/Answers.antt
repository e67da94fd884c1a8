use Rattle.std.proofs.Common.{◌≡◌, ℕ, Bool, true, false, not, eqb, List, drop, Option, Some, refl, sym, ◌∙◌, subst, eqb-true, eq-eqb}
use Rattle.std.specs.Option.{option_eq, unwrap_or}
use borrow.Author.Tests.{not-true, not-false}
use Rattle.lexical.specs.Text.{byte, none, first}
use Rattle.lexical.proofs.Cases.{clash}
use Rattle.lexical.proofs.Peek.{asked}
use Rattle.lexical.proofs.Run.{line-end-behind}
use Rattle.flow.proofs.BlockSteps.{next-flags}
use Rattle.walk.specs.Remaining.{NextInline}
use Rattle.walk.proofs.Ahead.{known-all}
use Rattle.walk.proofs.Places.{plain-same, leads-inline, paragraph-same}
use Rattle.walk.proofs.bulletin.Bulletin.text_line.Goals as goal

-- whether `<` stands there
module _ (r : Option ℕ) (s : List ℕ) (t : Bool) (e : unwrap_or r none ≡ first s) (n : t ≡ not (option_eq eqb r (Some (byte "<")))) where
  open-there : t ≡ false → first s ≡ byte "<"
  open-there h = eqb-true (first s) (byte "<") (sym (asked r s (byte "<") refl e) ∙ not-false (option_eq eqb r (Some (byte "<"))) (sym n ∙ h))

  none-there : t ≡ true → first s ≡ byte "<" → ⊥
  none-there h f = clash (eqb (first s) (byte "<")) (eq-eqb (first s) (byte "<") f) (sym (asked r s (byte "<") refl e) ∙ not-true (option_eq eqb r (Some (byte "<"))) (sym n ∙ h))

pub paragraph_end-end-requires-clause-same_line : goal.paragraph_end-end-requires-clause-same_line
paragraph_end-end-requires-clause-same_line c = let a = c.args in let b = a.self in sym (line-end-behind (byte "<") b.text.now a.cursor.next _ c.mark_or_line_end-opening.ensures)

pub returns-then-ne : goal.returns-then-ne
returns-then-ne c = let a = c.args in let b = a.self in let pre = c.requires in
    plain-same b.rules b.text.now b.flags.now a.cursor pre.within pre.no_block _ c.mark_or_line_end-opening.ensures (none-there c.peek.result (drop c.mark_or_line_end-opening.result b.text.now) c.ne.result c.peek.ensures c.ne.ensures c.if-ne.true) _ _ _ c.next_line.ensures (next-flags b.flags.now _ _ c.next_number.ensures) c.at_line.ensures

pub returns-in-Some : goal.returns-in-Some
returns-in-Some c = let a = c.args in let b = a.self in let pre = c.requires in
    leads-inline b.rules b.text.now b.flags.now a.cursor pre.within pre.no_block _ c.mark_or_line_end-opening.ensures (open-there c.peek.result (drop c.mark_or_line_end-opening.result b.text.now) c.ne.result c.peek.ensures c.ne.ensures c.if-ne.false) _ c.paragraph_end-end.ensures _ c.from_indices-text.ensures _ c.past_escaped-from.ensures _ c.next_line-next.ensures _
    (subst (NextInline b.rules _ _) c.in-Some.is (c.next_inline.ensures (known-all _ c.all-closers.ensures _)))

pub returns-in-None : goal.returns-in-None
returns-in-None c = let a = c.args in let b = a.self in let pre = c.requires in
    paragraph-same b.rules b.text.now b.flags.now a.cursor pre.within pre.no_block _ c.mark_or_line_end-opening.ensures (open-there c.peek.result (drop c.mark_or_line_end-opening.result b.text.now) c.ne.result c.peek.ensures c.ne.ensures c.if-ne.false) _ c.paragraph_end-end.ensures _ c.from_indices-text.ensures _ c.past_escaped-from.ensures _ c.next_line-next.ensures _ c.at_line-in-None.ensures
    (subst (NextInline b.rules c.from_indices-text.result.now c.past_escaped-from.result) c.in-None.is (c.next_inline.ensures (known-all _ c.all-closers.ensures _)))
