use Rattle.std.proofs.Common.{arith}
use Rattle.lexical.specs.Byte.{isTagNameByte}
use Rattle.lexical.proofs.Run.{run-length}
use Rattle.tagfilter.proofs.tag.names_disallowed.Goals as goal

pub split_at-requires : goal.split_at-requires
split_at-requires c = omega (arith, c.name_end.ensures, run-length isTagNameByte c.args.text.now)
