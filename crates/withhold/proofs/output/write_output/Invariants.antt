-- What is gone from the rest was added to what the writer holds. Each call that is made again took a byte at least, or used up patience; so what is left of both,
-- which is the measure, falls.
use Rattle.std.proofs.Common.{◌≡◌, List, ℕ, ◌++◌, ◌+◌, length}
use Rattle.std.specs.Io.KnownBytes.{Appends}
use Rattle.withhold.proofs.output.write_output.Given as goal

abbrev pub invariant-loop-rest : goal.invariant-loop-rest
invariant-loop-rest g l = (done : List ℕ) × (l.initial.rest ≡ done ++ l.rest) × Appends (g.W.Write.contents l.initial.writer) (g.W.Write.contents l.writer) done

abbrev pub decreases-loop-rest : goal.decreases-loop-rest
decreases-loop-rest g l = length l.rest + l.patience
