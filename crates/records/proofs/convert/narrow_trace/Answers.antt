-- Each return is a row of the table of refusals, or what converting answers.
use Rattle.std.proofs.Common.{sym, ◌∙◌, length}
use Rattle.records.specs.Conversion.{narrowed, narrowTrace, narrowBuffer}
use Rattle.rules.specs.declared.refusal.Refusal.TheVariants.{NotNarrow}
use Rattle.rules.proofs.Outputs.{read-refused, told-by, passed-on}
use Rattle.records.proofs.Refusals.{narrow-refused, narrow-over, narrow-taken}
use Rattle.records.proofs.convert.narrow_trace.Goals as goal

pub returns-in_err-check_trace : goal.returns-in_err-check_trace
unfolding narrowTrace narrowBuffer
returns-in_err-check_trace c = let a = c.args in
    let output = narrowed a.trace.now in
    let told = narrow-refused a.trace.now c.in_err-check_trace.field-0.0 c.in_err-check_trace.ensures in
    let both = passed-on (length output) output a.out.now c.from_residual.result c.in_err-check_trace.field-0.0 c.from_residual.ensures.1 told in
    record { answer = both.answer; buffer = both.buffer }

pub returns-then-some_over : goal.returns-then-some_over
unfolding narrowTrace narrowBuffer
returns-then-some_over c = let a = c.args in
    let output = narrowed a.trace.now in
    let told = narrow-over a.trace.now c.in_ok-check_trace.ensures (sym c.some_over.ensures ∙ c.if-some_over.true) in
    let both = told-by _ output a.out.now 11 told (read-refused (length output) output a.out.now NotNarrow) in
    record { answer = both.answer; buffer = both.buffer }

pub returns : goal.returns
unfolding narrowTrace narrowBuffer narrowed
returns c = let a = c.args in
    let told = narrow-taken a.trace.now c.in_ok-check_trace.ensures (sym c.some_over.ensures ∙ c.if-some_over.false) in
    let both = told-by _ (narrowed a.trace.now) a.out.now 0 told c.convert.ensures in
    record { answer = both.answer; buffer = both.buffer }
