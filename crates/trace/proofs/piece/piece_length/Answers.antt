use Rattle.std.proofs.Common.{arith}
use Rattle.records.specs.Answer.{enterNumber, dataOf}
use Rattle.trace.proofs.Walks.{first-within}
use Rattle.trace.proofs.Pieces.{piece-count}
use Rattle.trace.proofs.piece.piece_length.Goals as goal

pub count_lines-lines-requires : goal.count_lines-lines-requires
count_lines-lines-requires c = let a = c.args in
    (omega (arith, c.line_end.ensures, first-within a.front.now a.index c.requires.0), c.requires.1)

pub returns : goal.returns
returns c exit = let a = c.args in
    rw piece-count (omega (arith, rw c.lead_end.ensures at (c.count_some-lead.ensures.counted (enterNumber (dataOf a.form))), rw c.line_end.ensures at c.count_lines-lines.ensures.counted))
