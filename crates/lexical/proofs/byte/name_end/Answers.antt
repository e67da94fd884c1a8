use Rattle.lexical.specs.Byte.{isTagNameByte}
use Rattle.lexical.proofs.byte.name_end.Goals as goal

pub returns : goal.returns
returns c = c.class_end.ensures isTagNameByte (λ x b p. p)
