use Rattle.std.proofs.Common.{refl}
use Rattle.lexical.specs.Name.{cdataPrefix}
use Rattle.lexical.proofs.constant.cdata_prefix.Goals as goal

pub returns : goal.returns
unfolding cdataPrefix
returns c = refl
