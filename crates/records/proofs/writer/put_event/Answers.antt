-- Each field is stored behind the one before, and storing keeps the length, so there is room for each.
use Rattle.records.specs.Answer.{bytesOf}
use Rattle.records.proofs.Stores.{event-steps}
use Rattle.records.proofs.writer.put_event.Goals as goal

pub returns : goal.returns
returns c = let a = c.args in
    let size = c.bytes-size.ensures.is in
    rw size
    (event-steps (bytesOf a.width) a.number a.line a.column a.index a.vs c.write_field.ensures (rw size at c.write_field-2.ensures) (rw size at c.write_field-3.ensures))
