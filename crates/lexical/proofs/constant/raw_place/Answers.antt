use Rattle.std.proofs.Common.{ap, ◌∙◌, map}
use Rattle.lexical.specs.Byte.{lower}
use Rattle.lexical.specs.Name.{named, placeFrom, rawPlace}
use Rattle.lexical.proofs.constant.raw_place.Goals as goal

pub returns : goal.returns
unfolding rawPlace
returns c = c.place.ensures ∙ ap (λ names. named (placeFrom 0 (map lower c.args.name.now) names)) c.raw_table.ensures.names
