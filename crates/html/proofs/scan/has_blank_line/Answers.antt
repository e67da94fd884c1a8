use Rattle.std.proofs.Common.{sym, ◌∙◌}
use Rattle.rules.specs.Refusal.{blankFollows}
use Rattle.rules.proofs.Past.{somewhere-in, somewhere-out}
use Rattle.html.proofs.Blank.{blank-behind}
use Rattle.html.proofs.scan.has_blank_line.Goals as goal

pub loop-i-init : goal.loop-i-init
loop-i-init c = sym (blank-behind _ 0 _ c.line_end-i.ensures)

pub returns-then-blank_follows : goal.returns-then-blank_follows
returns-then-blank_follows c = sym (somewhere-in blankFollows _ _ c.loop-i-test.true ∙ rw (← c.blank_follows.ensures, c.if-blank_follows.true)) ∙ c.loop-i.invariant

pub loop-i-preserved : goal.loop-i-preserved
loop-i-preserved c = sym (blank-behind _ _ _ c.line_end-i-in-loop-i.ensures)
    ∙ sym (somewhere-in blankFollows _ _ c.loop-i-test.true ∙ rw (← c.blank_follows.ensures, c.if-blank_follows.false)) ∙ c.loop-i.invariant

pub returns : goal.returns
returns c = sym (somewhere-out blankFollows _ _ c.loop-i-test.false) ∙ c.loop-i.invariant
