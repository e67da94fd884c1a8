-- The invariant: what is left of the run is the whole run.
use Rattle.std.proofs.Common.{◌≡◌, drop}
use Rattle.flow.specs.ContinuationMachine.{meetsOf}
use Rattle.reader.proofs.html_flow.meets_closer.Given as goal

abbrev pub invariant-loop-byte : goal.invariant-loop-byte
invariant-loop-byte l = meetsOf l.rules l.state.kind l.state.name (drop l.byte-index l.line) ≡ meetsOf l.rules l.initial.state.kind l.initial.state.name l.line
