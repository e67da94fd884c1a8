use Rattle.std.proofs.Common.{sym, ◌∙◌, rules}
use Rattle.flow.proofs.BlockSteps.{next-flags}
use Rattle.walk.proofs.Paragraphs.{along-first, along-next, ends-before, ends-with}
use Rattle.walk.proofs.FromLine.{farther}
use Rattle.walk.proofs.bulletin.Bulletin.paragraph_end.Goals as goal

pub loop-stop-init : goal.loop-stop-init
loop-stop-init c = let a = c.args in let b = a.self in along-first b.rules b.text.now b.flags.now a.index _ _ c.requires.within (c.line_end-stop.ensures ∙ c.requires.same_line)

pub returns-then-ends_paragraph : goal.returns-then-ends_paragraph
returns-then-ends_paragraph c = let a = c.args in let b = a.self in ends-before b.rules b.text.now b.flags.now a.index a.line _ _ _ (next-flags b.flags.now _ _ c.next_number-number.ensures) c.loop-stop.invariant _ c.next_line-next.ensures c.loop-stop-test.true (sym c.ends_paragraph.ensures ∙ c.if-ends_paragraph.true)

pub loop-stop-smaller : goal.loop-stop-smaller
loop-stop-smaller c = let a = c.args in let b = a.self in
    let h = farther b.text.now c.loop-stop.stop _ _ c.next_line-next.ensures c.line_end-stop-in-loop-stop.ensures c.loop-stop.invariant.ended c.loop-stop-test.true in search (rules, h)

pub loop-stop-preserved : goal.loop-stop-preserved
loop-stop-preserved c = let a = c.args in let b = a.self in along-next b.rules b.text.now b.flags.now _ _ _ _ c.loop-stop.invariant _ _ c.next_line-next.ensures c.line_end-stop-in-loop-stop.ensures c.loop-stop-test.true _ (next-flags b.flags.now _ _ c.next_number-number-in-loop-stop.ensures) (sym c.ends_paragraph.ensures ∙ c.if-ends_paragraph.false)

pub returns : goal.returns
returns c = let a = c.args in let b = a.self in ends-with b.rules b.text.now b.flags.now a.index a.line _ _ _ (next-flags b.flags.now _ _ c.next_number-number.ensures) c.loop-stop.invariant c.loop-stop-test.false
