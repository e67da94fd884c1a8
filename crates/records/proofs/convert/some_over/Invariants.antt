-- The invariant: no record of the rest is bad, and a field is too large in it if one of the trace is.
use Rattle.std.proofs.Common.{◌≡◌, length}
use Rattle.rules.specs.Trace.{wide}
use Rattle.records.specs.Records.{records, badRecord}
use Rattle.records.specs.Conversion.{someOver}
use Rattle.records.proofs.convert.some_over.Given as goal

abbrev pub invariant-loop-rest : goal.invariant-loop-rest
invariant-loop-rest l = (badRecord (records wide l.rest) ≡ 0) × (someOver (records wide l.rest) ≡ someOver (records wide l.trace))

abbrev pub decreases-loop-rest : goal.decreases-loop-rest
decreases-loop-rest l = length l.rest
