use Rattle.std.proofs.Common.{◌≡◌, drop}
use Rattle.flow.specs.CompleteMachine.{runOf}
use Rattle.flow.proofs.tokenizer.run.Given as goal

abbrev pub invariant-loop-b : goal.invariant-loop-b
invariant-loop-b l = runOf l.rules l.state (drop l.b-index l.b-items) ≡ runOf l.fn.rules l.fn.start (drop l.fn.from l.fn.line)
