-- Each return is a row of the table of refusals, or what converting answers.
use Rattle.std.proofs.Common.{length}
use Rattle.records.specs.Conversion.{widened, widenTrace, widenBuffer}
use Rattle.rules.proofs.Outputs.{told-by, passed-on}
use Rattle.records.proofs.convert.widen_trace.Goals as goal

pub returns-in_err-check_trace : goal.returns-in_err-check_trace
unfolding widenTrace widenBuffer
returns-in_err-check_trace c = let a = c.args in
    let output = widened a.trace.now in
    let both = passed-on (length output) output a.out.now c.from_residual.result c.in_err-check_trace.field-0.0 c.from_residual.ensures.1 c.in_err-check_trace.ensures in
    record { answer = both.answer; buffer = both.buffer }

pub returns : goal.returns
unfolding widenTrace widenBuffer widened
returns c = let a = c.args in
    let both = told-by _ (widened a.trace.now) a.out.now 0 c.in_ok-check_trace.ensures c.convert.ensures in
    record { answer = both.answer; buffer = both.buffer }
