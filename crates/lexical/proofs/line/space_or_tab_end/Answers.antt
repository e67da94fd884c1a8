use Rattle.lexical.specs.Byte.{isSpaceOrTab}
use Rattle.lexical.proofs.line.space_or_tab_end.Goals as goal

pub returns : goal.returns
returns c = c.class_end.ensures isSpaceOrTab (λ x b p. p)
