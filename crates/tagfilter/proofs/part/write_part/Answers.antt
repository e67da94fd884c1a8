use Rattle.std.proofs.Common.{arith}
use Rattle.tagfilter.proofs.Parts.{up-to-start, tag-written, rest-written}
use Rattle.tagfilter.proofs.part.write_part.Goals as goal

pub loop-tag-init : goal.loop-tag-init
loop-tag-init c = let a = c.args in (c.requires.within.0, up-to-start a.out.now a.at _)

pub loop-tag-preserved : goal.loop-tag-preserved
loop-tag-preserved c = let a = c.args in let pre = c.requires in let t = c.in-Some.ensures in let h = t.within in
    (omega arith, tag-written a.bulletin.now a.start a.stop pre.within.1 a.out.now a.at pre.room c.loop-tag.invariant.1 t _ _ c.copy_part.ensures c.copy_part-in-Some.ensures)

pub returns : goal.returns
returns c = let a = c.args in let pre = c.requires in let at = c.loop-tag in
    rest-written a.bulletin.now a.start a.stop pre.within.1 a.out.now a.at pre.room at.invariant.1 at.invariant.0 c.in_default.ensures _ c.copy_part-2.ensures
