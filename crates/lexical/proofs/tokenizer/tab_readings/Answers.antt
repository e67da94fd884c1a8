use Rattle.std.proofs.Common.{arith}
use Rattle.lexical.specs.Point.{tabReadings}
use Rattle.lexical.proofs.tokenizer.tab_readings.Goals as goal

pub returns : goal.returns
unfolding tabReadings
returns c = omega (arith, c.saturating_sub.ensures)
