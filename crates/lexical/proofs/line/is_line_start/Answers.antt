use Rattle.lexical.specs.Line.{isLineStart}
use Rattle.std.proofs.Common.{sym, ◌∙◌, rules}
use Rattle.lexical.proofs.Ending.{start-after}
use Rattle.lexical.proofs.line.is_line_start.Goals as goal

pub returns-then-index-eq0 : goal.returns-then-index-eq0
unfolding isLineStart
returns-then-index-eq0 c = search rules

pub returns : goal.returns
returns c = c.ends_line.ensures ∙ sym (start-after _ _ c.if-index-eq0.false)
