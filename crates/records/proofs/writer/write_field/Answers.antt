use Rattle.std.proofs.Common.{arith, ◌∙◌}
use Rattle.records.proofs.Numbers.{two-lowest, four-lowest}
use Rattle.records.proofs.Stores.{field-put}
use Rattle.records.proofs.writer.write_field.Goals as goal

pub returns-in-Narrow : goal.returns-in-Narrow
returns-in-Narrow c = let a = c.args in
    rw c.in-Narrow.is
    (field-put a.out.now a.at 2 a.value (omega arith) (rw c.in-Narrow.is at c.requires) (rw c.to_le_bytes-bytes.ensures at c.copy_from_slice.ensures.after ∙ two-lowest a.value))

pub returns-in-Wide : goal.returns-in-Wide
returns-in-Wide c = let a = c.args in
    rw c.in-Wide.is
    (field-put a.out.now a.at 4 a.value (omega arith) (rw c.in-Wide.is at c.requires) (rw c.to_le_bytes-bytes.ensures at c.copy_from_slice-in-Wide.ensures.after ∙ four-lowest a.value))
