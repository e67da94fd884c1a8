use Rattle.std.proofs.Common.{sym, arith}
use Rattle.rules.specs.Trace.{wide, lastRecord, recordBytes}
use Rattle.records.specs.Answer.{formNumber}
use Rattle.trace.specs.Writing.{lastLength}
use Rattle.records.proofs.Records.{last-bytes}
use Rattle.records.proofs.Stores.{placed-whole}
use Rattle.rules.proofs.Outputs.{not-written, is-written}
use Rattle.trace.proofs.piece.trace_last.Goals as goal

pub returns-then-out-lt-LAST_LENGTH : goal.returns-then-out-lt-LAST_LENGTH
returns-then-out-lt-LAST_LENGTH c = let a = c.args in not-written _ _ _ (omega (arith, c.if-out-lt-LAST_LENGTH.true, last-bytes wide (formNumber a.form) a.index a.value))

pub returns : goal.returns
returns c = let a = c.args in
    let l = last-bytes wide (formNumber a.form) a.index a.value in
    is-written _ _ lastLength (sym l) c.if-out-lt-LAST_LENGTH.false
    (placed-whole (recordBytes wide (lastRecord (formNumber a.form) a.index a.value)) (omega (arith, l, c.if-out-lt-LAST_LENGTH.false)) c.write_record.ensures)
