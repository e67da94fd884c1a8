use Rattle.std.proofs.Common.{sym, ◌∙◌}
use Rattle.lexical.proofs.Cases.{and-both}
use Rattle.lexical.proofs.Run.{all-inner}
use Rattle.lexical.proofs.line.are_inner.Goals as goal

pub returns : goal.returns
returns c = and-both c.are_other.ensures (and-both c.are_other-2.ensures c.are_other-3.ensures) ∙ sym (all-inner c.args.mark _)
