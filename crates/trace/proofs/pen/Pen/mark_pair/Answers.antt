use Rattle.trace.proofs.Marks.{and-then}
use Rattle.trace.proofs.pen.Pen.mark_pair.Goals as goal

pub returns-clause-marked : goal.returns-clause-marked
returns-clause-marked c = and-then c.mark.ensures.marked c.mark-2.ensures.marked
