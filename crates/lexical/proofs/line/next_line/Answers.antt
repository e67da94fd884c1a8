use Rattle.std.proofs.Common.{arith}
use Rattle.lexical.proofs.Ending.{ending-out, ending-within}
use Rattle.lexical.proofs.line.next_line.Goals as goal

pub overflow_add-result : goal.overflow_add-result
overflow_add-result c = let a = c.args in
    let h = ending-within a.bytes.now a.index (omega (arith, c.if-index-bytes.true)) in
    omega (arith, c.line_ending.ensures, h)

pub returns : goal.returns
returns c = let a = c.args in omega (arith, ending-out a.bytes.now a.index c.if-index-bytes.false)
