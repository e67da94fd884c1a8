use Rattle.std.proofs.Common.{sym, ◌∙◌, ap, ◌+◌}
use Rattle.rules.specs.Filter.{isDisallowed}
use Rattle.walk.proofs.Forms.{rest-is}
use Rattle.tagfilter.proofs.Parts.{passed-on, passed-plain, passed-one, passed-all}
use Rattle.tagfilter.proofs.part.next_tag.Goals as goal

pub loop-i-init : goal.loop-i-init
loop-i-init c = let a = c.args in let pre = c.requires in
    passed-plain a.bulletin.now a.stop a.index _ pre.0 c.mark_or_line_end-i.ensures pre.1

pub returns-then-is_disallowed : goal.returns-then-is_disallowed
returns-then-is_disallowed c = let a = c.args in
    record {
      passed = c.loop-i.invariant;
      within = c.loop-i-test.true;
      tag = ap isDisallowed (sym (rest-is a.bulletin.now c.loop-i.i)) ∙ sym c.is_disallowed.ensures ∙ c.if-is_disallowed.true;
    }

pub loop-i-preserved : goal.loop-i-preserved
loop-i-preserved c = let a = c.args in let pre = c.requires in let at = c.loop-i in let t = c.loop-i-test.true in
    let none = ap isDisallowed (sym (rest-is a.bulletin.now at.i)) ∙ sym c.is_disallowed.ensures ∙ c.if-is_disallowed.false in
    let one = passed-one a.bulletin.now a.stop at.i t pre.1 none in
    let more = passed-plain a.bulletin.now a.stop (at.i + 1) _ one.to c.mark_or_line_end-i-in-loop-i.ensures pre.1 in
    passed-on a.bulletin.now a.stop a.index at.i _ at.invariant (passed-on a.bulletin.now a.stop at.i (at.i + 1) _ one more)

pub returns : goal.returns
returns c = passed-all c.args.bulletin.now c.args.stop c.args.index c.loop-i.i c.loop-i.invariant c.loop-i-test.false
