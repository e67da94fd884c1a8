use Rattle.std.proofs.Common.{refl, subst}
use Rattle.walk.specs.Remaining.{Attempt}
use Rattle.walk.proofs.InlineSteps.{to-opening, onward, past-opening, none-left}
use Rattle.walk.proofs.paragraph.next_inline.Goals as goal

pub loop-start-init : goal.loop-start-init
loop-start-init c known = let a = c.args in to-opening a.rules a.text.now a.index a.index _ a.closers refl known c.next_open-start.ensures

pub returns-in-Ok : goal.returns-in-Ok
returns-in-Ok c known = let a = c.args in let at = c.loop-start.invariant known in
    onward a.rules a.text.now a.index _ _ at c.loop-start-test.true _ (subst (Attempt a.rules a.text.now c.loop-start.start) c.in-Ok.is (c.attempt.ensures at.known))

pub loop-start-preserved : goal.loop-start-preserved
loop-start-preserved c known = let a = c.args in let at = c.loop-start.invariant known in
    past-opening a.rules a.text.now a.index _ _ at c.loop-start-test.true _ (subst (Attempt a.rules a.text.now c.loop-start.start) c.in-Err.is (c.attempt.ensures at.known)) _ c.next_open-start-in-loop-start.ensures

pub returns : goal.returns
returns c known = let a = c.args in none-left a.rules a.text.now a.index _ _ (c.loop-start.invariant known) c.loop-start-test.false
