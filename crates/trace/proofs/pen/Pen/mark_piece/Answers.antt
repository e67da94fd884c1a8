-- One marking after the other, each where the one before left the pen; together they are the events of the piece. There is room for each, because there is for all.
use Rattle.std.proofs.Common.{◌∙◌, ap}
use Rattle.trace.proofs.Marks.{and-then, renamed}
use Rattle.trace.proofs.Pieces.{piece-is}
use Rattle.trace.proofs.pen.Pen.mark_piece.Goals as goal

pub returns : goal.returns
returns c = let a = c.args in
    let p = c.mark_pair.ensures in
    let front = p.marked.kept.front ∙ c.mark_some.ensures.marked.kept.front ∙ c.mark.ensures.marked.kept.front in
    renamed _
    (piece-is a.form a.self.now.front.now a.index a.exit c.whole-whole.ensures c.data-data.ensures c.lead_end-lead.ensures c.line_end-first.ensures (ap (λ f. f.now) front) p.stands)
    (and-then c.mark.ensures.marked (and-then c.mark_some.ensures.marked (and-then p.marked (and-then c.mark_lines.ensures.marked c.mark-2.ensures.marked))))
