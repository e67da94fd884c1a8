use Rattle.std.proofs.Common.{ap, ◌∙◌}
use Rattle.reader.specs.Moved.{turnedAt}
use Rattle.reader.proofs.slice.read_at.Goals as goal

pub returns : goal.returns
unfolding turnedAt
returns c =
    simp (c.byte.ensures, c.past-there.ensures.1 c.args.carry, ap (λ x. x.now) c.past-there.ensures.0, c.scan-answer.ensures, c.at-here.ensures.1, ap (λ x. x.now) (c.at-here.ensures.0 ∙ c.new.ensures.0))
