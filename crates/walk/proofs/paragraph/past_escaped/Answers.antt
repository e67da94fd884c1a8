use Rattle.std.proofs.Common.{arith}
use Rattle.walk.proofs.Escapes.{odd-run, even-run}
use Rattle.walk.proofs.paragraph.past_escaped.Goals as goal

pub returns-then-backslashes_behind-eq1 : goal.returns-then-backslashes_behind-eq1
returns-then-backslashes_behind-eq1 c = rw (odd-run _ _ _ c.from_indices.ensures c.backslashes_behind.ensures c.if-backslashes_behind-eq1.true)

pub returns : goal.returns
returns c = rw (even-run _ _ _ c.from_indices.ensures c.backslashes_behind.ensures c.if-backslashes_behind-eq1.false) (omega arith)
