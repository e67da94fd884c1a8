use Rattle.std.proofs.Common.{◌∙◌, rules}
use Rattle.lexical.specs.Line.{isInner}
use Rattle.lexical.proofs.line.mark_or_line_end.Goals as goal

pub returns : goal.returns
returns c = c.class_end.ensures (isInner c.args.mark) (λ x b p. search rules) ∙ c.skip_eights-i.ensures
