use Rattle.std.proofs.Common.{sym, ◌∙◌}
use Rattle.rules.specs.Trace.{wide, eventRecord, recordBytes}
use Rattle.records.proofs.Records.{event-bytes}
use Rattle.records.proofs.Stores.{placed-in, placed-not}
use Rattle.records.proofs.writer.write_event.Goals as goal

pub returns-then-has_room : goal.returns-then-has_room
returns-then-has_room c = let a = c.args in
    placed-in (recordBytes wide (eventRecord a.number a.line a.column a.index a.vs)) (event-bytes wide a.number a.line a.column a.index a.vs) (sym c.has_room.ensures ∙ c.if-has_room.true) c.put_event.ensures

pub returns-else-has_room : goal.returns-else-has_room
returns-else-has_room c = let a = c.args in
    placed-not (recordBytes wide (eventRecord a.number a.line a.column a.index a.vs)) (event-bytes wide a.number a.line a.column a.index a.vs) (sym c.has_room.ensures ∙ c.if-has_room.false)
