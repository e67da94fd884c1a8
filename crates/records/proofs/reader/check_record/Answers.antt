use Rattle.std.proofs.Common.{sym, arith}
use Rattle.records.proofs.Records.{some-left, none-left, flaw-out, flaw-kind, flaw-cut, flaw-none}
use Rattle.records.proofs.reader.check_record.Goals as goal

pub returns-then-is_empty : goal.returns-then-is_empty
returns-then-is_empty c = sym (flaw-out _ _ (none-left _ c.if-is_empty.ensures))

pub returns-then-number : goal.returns-then-number
returns-then-number c = sym (flaw-kind _ _ (some-left _ c.if-is_empty.ensures) c.if-number.true)

pub returns-then-bytes-record_length : goal.returns-then-bytes-record_length
returns-then-bytes-record_length c = sym (flaw-cut _ _ (some-left _ c.if-is_empty.ensures) c.if-number.false (omega (arith, c.record_length.ensures)))

pub returns : goal.returns
returns c = sym (flaw-none _ _ (some-left _ c.if-is_empty.ensures) c.if-number.false (omega (arith, c.record_length.ensures)))
