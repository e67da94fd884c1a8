use Rattle.std.proofs.Common.{arith}
use Rattle.rules.proofs.Outputs.{not-written, is-written}
use Rattle.records.proofs.convert.convert.Goals as goal

pub returns-then-out-length : goal.returns-then-out-length
returns-then-out-length c = not-written _ _ _ (omega (arith, c.converted_length-length.ensures, c.if-out-length.true))

pub returns : goal.returns
returns c = is-written _ _ _ c.converted_length-length.ensures c.if-out-length.false c.write_records.ensures
