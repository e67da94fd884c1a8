-- The invariant: no record of the rest is bad, and what ends them is what ends those of the trace.
use Rattle.std.proofs.Common.{◌≡◌, length}
use Rattle.records.specs.Answer.{bytesOf}
use Rattle.records.specs.Records.{records, badRecord, endsOnce}
use Rattle.records.proofs.kept.ends_once.Given as goal

abbrev pub invariant-loop-rest : goal.invariant-loop-rest
invariant-loop-rest l =
    (badRecord (records (bytesOf l.width) l.rest) ≡ 0) × (endsOnce (records (bytesOf l.width) l.rest) ≡ endsOnce (records (bytesOf l.width) l.trace))

abbrev pub decreases-loop-rest : goal.decreases-loop-rest
decreases-loop-rest l = length l.rest
