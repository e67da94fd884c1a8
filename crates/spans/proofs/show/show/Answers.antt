-- Each return is a row of the table of refusals, or the answer.
use Rattle.std.proofs.Common.{sym, arith, length}
use Rattle.rules.specs.Withhold.{outside}
use Rattle.rules.specs.Spans.{asPieces, show, showRefusal}
use Rattle.rules.proofs.Outputs.{told-by, passed-on, not-written, all-written, fits}
use Rattle.runs.proofs.Spans.{good-spans}
use Rattle.spans.proofs.show.show.Goals as goal

pub returns-in_err-check_spans : goal.returns-in_err-check_spans
unfolding show showRefusal
returns-in_err-check_spans c = let a = c.args in
    let output = outside 0 (asPieces a.spans.now) a.bulletin.now in
    let both = passed-on (length output) output a.out.now c.from_residual.result c.in_err-check_spans.field-0.0 c.from_residual.ensures.1 c.in_err-check_spans.ensures in
    record { answer = both.answer; buffer = both.buffer }

pub beside_length-length-requires : goal.beside_length-length-requires
beside_length-length-requires c = let a = c.args in good-spans a.bulletin.now a.spans.now (sym c.in_ok-check_spans.ensures)

pub returns-then-out-length : goal.returns-then-out-length
unfolding show showRefusal
returns-then-out-length c = let a = c.args in
    let output = outside 0 (asPieces a.spans.now) a.bulletin.now in
    let both = told-by _ output a.out.now 0 c.in_ok-check_spans.ensures (not-written (length output) output a.out.now (omega (arith, c.beside_length-length.ensures, c.if-out-length.true))) in
    record { answer = both.answer; buffer = both.buffer }

pub write_beside-requires-clause-are_spans : goal.write_beside-requires-clause-are_spans
write_beside-requires-clause-are_spans c = let a = c.args in good-spans a.bulletin.now a.spans.now (sym c.in_ok-check_spans.ensures)

pub returns : goal.returns
unfolding show showRefusal
returns c = let a = c.args in
    let output = outside 0 (asPieces a.spans.now) a.bulletin.now in
    let done = all-written (length output) output a.out.now _ c.beside_length-length.ensures c.write_beside.ensures in
    let both = told-by _ output a.out.now 0 c.in_ok-check_spans.ensures (fits _ output a.out.now (omega (arith, c.beside_length-length.ensures, c.if-out-length.false)) done) in
    record { answer = both.answer; buffer = both.buffer }
