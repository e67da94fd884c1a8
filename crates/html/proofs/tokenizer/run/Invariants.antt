-- The invariant: what is left of the run is the whole run.
use Rattle.std.proofs.Common.{◌-◌, ◌≡◌, length, drop}
use Rattle.html.specs.TextMachine.{runOf}
use Rattle.html.proofs.tokenizer.run.Given as goal

abbrev pub invariant-loop-index : goal.invariant-loop-index
invariant-loop-index l = runOf l.rules l.state l.size (drop l.index l.text) ≡ runOf l.rules l.initial.state l.initial.size (drop l.initial.index l.text)

abbrev pub decreases-loop-index : goal.decreases-loop-index
decreases-loop-index l = length l.text - l.index
