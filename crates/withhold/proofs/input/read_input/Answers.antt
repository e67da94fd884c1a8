use Rattle.withhold.proofs.Fronts.{onward}
use Rattle.withhold.proofs.input.read_input.Goals as goal

-- a call changes only the front of the rest that it is lent, which is a longer front of the whole
pub loop-done-preserved : goal.loop-done-preserved
loop-done-preserved g c =
    let front = rw c.in-Some.is at c.in_ok-again.ensures in
    onward c.loop-done.done c.in-Some.again.count _ c.loop-done.buffer _ c.loop-done.invariant front.0
