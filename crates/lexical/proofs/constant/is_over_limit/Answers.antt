use Rattle.std.proofs.Common.{refl}
use Rattle.lexical.specs.Text.{limit}
use Rattle.lexical.proofs.constant.is_over_limit.Goals as goal

pub returns : goal.returns
unfolding limit
returns c = refl
