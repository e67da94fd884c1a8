use Rattle.std.proofs.Common.{sym, ◌∙◌, arith}
use Rattle.trace.proofs.Empty.{empty-here, empty-behind}
use Rattle.trace.proofs.block.ends_empty.Goals as goal

pub returns-then-start-stop : goal.returns-then-start-stop
returns-then-start-stop c = let a = c.args in sym (empty-here a.text.now a.start a.stop c.if-start-stop.true)

pub returns : goal.returns
returns c = let a = c.args in c.is_line_ending_byte.ensures ∙ sym (empty-behind a.text.now a.start a.stop (omega arith) c.requires.1)
