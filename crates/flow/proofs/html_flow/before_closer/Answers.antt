use Rattle.std.proofs.Common.{inl, inr, ◌∙◌}
use Rattle.rules.specs.Block.{beforeCloser}
use Rattle.flow.proofs.ContinuationMeans.{finds-comment, finds-instruction, finds-declaration, finds-cdata}
use Rattle.flow.proofs.html_flow.before_closer.Goals as goal

pub returns-in-Raw : goal.returns-in-Raw
unfolding beforeCloser
returns-in-Raw c = rw c.in-Raw.is c.find_raw_end_tag.ensures

pub returns-in-Comment : goal.returns-in-Comment
returns-in-Comment c = c.find_closer.ensures ∙ rw c.in-Comment.is (finds-comment _ _)

pub returns-in-Instruction : goal.returns-in-Instruction
returns-in-Instruction c = c.find_closer-in-Instruction.ensures ∙ rw c.in-Instruction.is (finds-instruction _ _)

pub returns-in-Declaration : goal.returns-in-Declaration
returns-in-Declaration c = c.find_closer-in-Declaration.ensures ∙ rw c.in-Declaration.is (finds-declaration _ _)

pub returns-in-Cdata : goal.returns-in-Cdata
returns-in-Cdata c = c.find_closer-in-Cdata.ensures ∙ rw c.in-Cdata.is (finds-cdata _ _)

pub returns-in-Basic : goal.returns-in-Basic
unfolding beforeCloser
returns-in-Basic c = elim c.in-Basic.is [ inl e ↦ rw e | inr e ↦ rw e ]
