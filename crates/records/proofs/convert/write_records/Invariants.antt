-- The invariant: what is left, written from here on, makes the whole.
use Rattle.std.proofs.Common.{length}
use Rattle.records.specs.Answer.{bytesOf}
use Rattle.records.proofs.Turns.{Stands}
use Rattle.records.proofs.convert.write_records.Given as goal

abbrev pub invariant-loop-rest : goal.invariant-loop-rest
invariant-loop-rest l = Stands (bytesOf l.to) (bytesOf l.from) l.trace l.initial.out l.out l.rest l.put

abbrev pub decreases-loop-rest : goal.decreases-loop-rest
decreases-loop-rest l = length l.rest
