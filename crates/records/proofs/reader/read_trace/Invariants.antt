-- The invariant: what is left to read of the rest is what was asked for.
use Rattle.std.proofs.Common.{◌-◌, ◌≡◌}
use Rattle.rules.specs.Trace.{wide, readTrace}
use Rattle.records.proofs.reader.read_trace.Given as goal

abbrev pub invariant-loop : goal.invariant-loop
invariant-loop l = readTrace wide (l.number - l.counter) l.rest ≡ readTrace wide l.number l.trace
