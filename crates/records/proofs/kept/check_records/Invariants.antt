-- The invariant: the first bad record of the rest is that of the trace.
use Rattle.std.proofs.Common.{◌≡◌, length}
use Rattle.records.specs.Answer.{bytesOf}
use Rattle.records.specs.Records.{records, badRecord}
use Rattle.records.proofs.kept.check_records.Given as goal

abbrev pub invariant-loop-rest : goal.invariant-loop-rest
invariant-loop-rest l = badRecord (records (bytesOf l.width) l.rest) ≡ badRecord (records (bytesOf l.width) l.trace)

abbrev pub decreases-loop-rest : goal.decreases-loop-rest
decreases-loop-rest l = length l.rest
