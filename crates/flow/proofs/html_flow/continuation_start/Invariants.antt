use Rattle.std.proofs.Common.{Some, ◌≡◌, ◌-◌, length}
use Rattle.flow.specs.Answer.{openingNumber, openingName}
use Rattle.flow.specs.BlockMachine.{continuationStartOf}
use Rattle.flow.proofs.html_flow.continuation_start.Given as goal

abbrev pub invariant-loop-stop : goal.invariant-loop-stop
invariant-loop-stop l = continuationStartOf l.rules (openingNumber (Some l.opening)) (openingName (Some l.opening)) l.bulletin l.flags l.stop l.number ≡ continuationStartOf l.rules (openingNumber (Some l.opening)) (openingName (Some l.opening)) l.bulletin l.flags l.index l.line

abbrev pub decreases-loop-stop : goal.decreases-loop-stop
decreases-loop-stop l = length l.bulletin - l.stop
