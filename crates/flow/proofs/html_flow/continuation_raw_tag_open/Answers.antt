use Rattle.std.proofs.Common.{sym, refl, ne_eqb, ◌∙◌, ◌+◌}
use Rattle.flow.proofs.OpenSteps.{asked-there}
use Rattle.flow.proofs.RawEnd.{raw-at}
use Rattle.flow.proofs.html_flow.continuation_raw_tag_open.Goals.{then-line-at-eq60, else-line-at-eq60}
use Rattle.flow.proofs.html_flow.continuation_raw_tag_open.Goals as goal

pub returns-then-eq : goal.returns-then-eq
returns-then-eq c = let a = c.args in elim c.if-line-at-eq60.branch [
  | then-line-at-eq60 w ↦ c.continuation_raw_end_tag.ensures
      ∙ raw-at a.line.now a.at c.requires w.if-line-at-eq60.true (asked-there w.peek.result a.line.now (a.at + 1) w.peek.ensures 47 refl _ w.eq.ensures (sym w.value-is ∙ c.if-eq.true))
  | else-line-at-eq60 w ↦ (let z = ne_eqb _ _ w.if-line-at-eq60.false in cc)
]
