use Rattle.std.proofs.Common.{sym, ◌∙◌}
use Rattle.rules.specs.Trace.{wide, lastRecord, recordBytes}
use Rattle.records.proofs.Records.{last-bytes}
use Rattle.records.proofs.Stores.{placed-in, placed-not}
use Rattle.records.proofs.writer.write_last.Goals as goal

pub returns-then-has_room : goal.returns-then-has_room
returns-then-has_room c = let a = c.args in
    placed-in (recordBytes wide (lastRecord a.number a.stop a.value)) (last-bytes wide a.number a.stop a.value) (sym c.has_room.ensures ∙ c.if-has_room.true) c.put_last.ensures

pub returns-else-has_room : goal.returns-else-has_room
returns-else-has_room c = let a = c.args in
    placed-not (recordBytes wide (lastRecord a.number a.stop a.value)) (last-bytes wide a.number a.stop a.value) (sym c.has_room.ensures ∙ c.if-has_room.false)
