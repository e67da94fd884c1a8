use Rattle.std.proofs.Common.{sym, ◌∙◌, arith, rules}
use Rattle.rules.specs.Block.{isRawEnd}
use Rattle.rules.proofs.Past.{first-here, first-on, first-out}
use Rattle.flow.proofs.RawEnd.{raw-end-behind}
use Rattle.flow.proofs.html_flow.find_raw_end_tag.Goals as goal

pub loop-i-init : goal.loop-i-init
loop-i-init c = sym (raw-end-behind _ 0 _ c.mark_or_line_end-i.ensures) ∙ omega arith

pub returns-then-continuation_raw_tag_open : goal.returns-then-continuation_raw_tag_open
returns-then-continuation_raw_tag_open c = sym (first-here isRawEnd _ _ c.loop-i-test.true (sym c.continuation_raw_tag_open.ensures ∙ c.if-continuation_raw_tag_open.true)) ∙ c.loop-i.invariant

pub loop-i-smaller : goal.loop-i-smaller
loop-i-smaller c = search (rules, c.mark_or_line_end-i-in-loop-i.ensures)

pub loop-i-preserved : goal.loop-i-preserved
loop-i-preserved c = sym (raw-end-behind _ _ _ c.mark_or_line_end-i-in-loop-i.ensures)
    ∙ sym (first-on isRawEnd _ _ c.loop-i-test.true (sym c.continuation_raw_tag_open.ensures ∙ c.if-continuation_raw_tag_open.false)) ∙ c.loop-i.invariant

pub returns : goal.returns
returns c = sym (first-out isRawEnd _ _ c.loop-i-test.false) ∙ c.loop-i.invariant
