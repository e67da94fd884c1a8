use Rattle.std.proofs.Common.{◌∙◌}
use Rattle.walk.proofs.FromLine.{no-more}
use Rattle.walk.proofs.bulletin.Bulletin.line_piece.Goals as goal

pub returns : goal.returns
returns c = let a = c.args in let b = a.self in c.loop-at.invariant ∙ no-more b.rules b.text.now b.flags.now _ _ c.loop-at-test.false
