use Rattle.std.proofs.Common.{◌∙◌}
use Rattle.trace.proofs.Marks.{and-then, renamed}
use Rattle.trace.proofs.Walks.{line-is}
use Rattle.trace.proofs.pen.Pen.mark_line.Goals as goal

pub returns-clause-marked : goal.returns-clause-marked
returns-clause-marked c = let pen = c.args.self.now in
    let m = c.mark_pair.ensures in
    renamed _ (line-is c.args.form pen c.mark_pair.new.self c.next_line-from.ensures m.marked.kept.front m.stands) (and-then m.marked c.mark_data.ensures.marked)

pub returns-clause-stands : goal.returns-clause-stands
returns-clause-stands c = let m = c.mark_pair.ensures in
    c.mark_data.ensures.stands ∙ rw (m.marked.kept.front, m.stands, c.next_line-from.ensures)
