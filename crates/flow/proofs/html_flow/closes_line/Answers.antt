use Rattle.rules.specs.Block.{closes}
use Rattle.flow.proofs.html_flow.closes_line.Goals as goal

pub returns : goal.returns
unfolding closes
returns c = rw c.before_closer.ensures
