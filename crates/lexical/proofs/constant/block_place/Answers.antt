use Rattle.std.proofs.Common.{ap, ◌∙◌, map}
use Rattle.lexical.specs.Byte.{lower}
use Rattle.lexical.specs.Name.{named, placeFrom, blockPlace}
use Rattle.lexical.proofs.constant.block_place.Goals as goal

pub returns : goal.returns
unfolding blockPlace
returns c = c.place.ensures ∙ ap (λ names. named (placeFrom 0 (map lower c.args.name.now) names)) c.block_table.ensures.names
