use Rattle.std.proofs.Common.{◌∙◌, arith}
use Rattle.html.proofs.Kept.{either-carry, no-carry}
use Rattle.html.proofs.scan.inline_at.Goals as goal

pub returns : goal.returns
returns c = let a = c.args in c.keep.ensures ∙ either-carry a.rules a.text.now a.index 0 0 _ c.run.ensures (no-carry 0 a.rules.t2) (omega arith)
