use Rattle.records.specs.Answer.{enterNumber}
use Rattle.trace.proofs.Marks.{marked-none, renamed}
use Rattle.trace.proofs.Walks.{some, none}
use Rattle.trace.proofs.pen.Pen.mark_some.Goals as goal

pub returns-then-from-to-clause-marked : goal.returns-then-from-to-clause-marked
returns-then-from-to-clause-marked c = let a = c.args in renamed _ (some (enterNumber a.name) a.from a.to c.if-from-to.true) c.mark_pair.ensures.marked

pub returns-else-from-to-clause-marked : goal.returns-else-from-to-clause-marked
returns-else-from-to-clause-marked c = let a = c.args in renamed _ (none (enterNumber a.name) a.from a.to c.if-from-to.false) (marked-none a.self.now)
