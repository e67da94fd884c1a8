use Rattle.std.proofs.Common.{sym, ap, ◌∙◌}
use Rattle.flow.specs.CompleteMachine.{runOf}
use Rattle.flow.specs.declared.tokenizer.State.TheVariants.{Next, Ok, Nok}
use Rattle.flow.proofs.Turn.{turn, ended, to-end}
use Rattle.flow.proofs.tokenizer.run.Goals as goal

pub loop-b-init : goal.loop-b-init
loop-b-init c = ap (runOf c.args.rules c.args.start) (c.from_indices-b-items.ensures ∙ to-end c.args.line.now c.args.from)

pub returns-in-Ok : goal.returns-in-Ok
returns-in-Ok c = sym (turn _ _ _ _ Ok c.loop-b-test.true (sym c.in-Ok.is ∙ c.step.ensures)) ∙ c.loop-b.invariant

pub returns-in-Nok : goal.returns-in-Nok
returns-in-Nok c = sym (turn _ _ _ _ Nok c.loop-b-test.true (sym c.in-Nok.is ∙ c.step.ensures)) ∙ c.loop-b.invariant

pub loop-b-preserved : goal.loop-b-preserved
loop-b-preserved c = sym (turn _ _ _ _ (Next _) c.loop-b-test.true (sym c.in-Next.is ∙ c.step.ensures)) ∙ c.loop-b.invariant

pub returns : goal.returns
returns c = c.may_end.ensures ∙ sym (ended _ _ _ _ c.loop-b-test.false) ∙ c.loop-b.invariant
