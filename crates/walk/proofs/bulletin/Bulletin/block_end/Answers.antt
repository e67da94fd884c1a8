use Rattle.std.proofs.Common.{◌≡◌, true, ◌&&◌, ltb, length, ltb-true, rules}
use Rattle.std.proofs.lemmas.Bool.{and_parts}
use Rattle.flow.proofs.BlockSteps.{next-flags}
use Rattle.walk.proofs.BlockLines.{passing-first, passing-next, block-end}
use Rattle.walk.proofs.FromLine.{farther}
use Rattle.walk.proofs.bulletin.Bulletin.block_end.Goals as goal

pub loop-end-init : goal.loop-end-init
loop-end-init c = let a = c.args in let b = a.self in passing-first b.text.now b.flags.now a.stop a.index _ _ c.requires c.line_end-end.ensures

pub loop-end-smaller : goal.loop-end-smaller
loop-end-smaller c = let a = c.args in let b = a.self in
    let e = c.loop-end.end in
    let t : (ltb e a.stop && ltb e (length b.text.now)) ≡ true = c.loop-end-test.true in
    let l = ltb-true e (length b.text.now) (and_parts (ltb e a.stop) (ltb e (length b.text.now)) t).1 in
    let h = farther b.text.now e _ _ c.next_line.ensures c.line_end-end-in-loop-end.ensures c.loop-end.invariant.ended l in search (rules, h, l)

pub loop-end-preserved : goal.loop-end-preserved
loop-end-preserved c = let a = c.args in let b = a.self in
    let e = c.loop-end.end in
    let t : (ltb e a.stop && ltb e (length b.text.now)) ≡ true = c.loop-end-test.true in
    passing-next b.text.now b.flags.now a.stop _ _ _ _ c.loop-end.invariant _ _ c.next_line.ensures c.line_end-end-in-loop-end.ensures (ltb-true e (length b.text.now) (and_parts (ltb e a.stop) (ltb e (length b.text.now)) t).1) _ (next-flags b.flags.now _ _ c.next_number-number-in-loop-end.ensures) (ltb-true e a.stop (and_parts (ltb e a.stop) (ltb e (length b.text.now)) t).0)

pub returns : goal.returns
returns c = let a = c.args in let b = a.self in block-end b.text.now b.flags.now a.stop a.index a.line _ _ _ (next-flags b.flags.now _ _ c.next_number-number.ensures) c.loop-end.invariant c.loop-end-test.false
