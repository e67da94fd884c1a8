use Rattle.std.proofs.Common.{arith}
use Rattle.lexical.specs.Text.{limit}
use Rattle.tagfilter.proofs.Parts.{counted-on, counted-bound}
use Rattle.tagfilter.proofs.part.part_length.Goals as goal

pub overflow_add-size : goal.overflow_add-size
unfolding limit
overflow_add-size c = let a = c.args in let pre = c.requires in omega (arith, counted-bound a.bulletin.now a.stop pre.within.1 c.loop-tag.invariant, pre.within.1, pre.short)

pub loop-tag-preserved : goal.loop-tag-preserved
loop-tag-preserved c = let a = c.args in counted-on a.bulletin.now a.stop c.requires.within.1 c.loop-tag.invariant c.in-Some.ensures
