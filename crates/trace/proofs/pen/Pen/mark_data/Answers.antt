-- The spaces or tabs end before the line does, so the pen only moves forward.
use Rattle.trace.proofs.Marks.{and-then, renamed}
use Rattle.trace.proofs.Walks.{text-is, flow-is}
use Rattle.trace.proofs.pen.Pen.mark_data.Goals as goal

pub returns-in-Text-clause-marked : goal.returns-in-Text-clause-marked
returns-in-Text-clause-marked c = let pen = c.args.self.now in
    renamed _ (text-is pen.front.now pen.point.index c.in-Text.is c.space_or_tab_end-data.ensures c.line_end-to.ensures) (and-then c.mark_some.ensures.marked c.mark_pair.ensures.marked)

pub returns-in-Flow-clause-marked : goal.returns-in-Flow-clause-marked
returns-in-Flow-clause-marked c = let pen = c.args.self.now in
    renamed _ (flow-is pen.front.now pen.point.index c.in-Flow.is c.line_end-to.ensures) c.mark_some-in-Flow.ensures.marked
