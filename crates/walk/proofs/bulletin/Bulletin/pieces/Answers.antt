use Rattle.std.proofs.Common.{◌∙◌, ap}
use Rattle.walk.specs.Remaining.{fromPlace}
use Rattle.walk.proofs.Walk.{from-start}
use Rattle.walk.proofs.bulletin.Bulletin.pieces.Goals as goal

pub returns : goal.returns
returns c = let b = c.args.self in ap (fromPlace b) c.at_line.ensures ∙ from-start b
