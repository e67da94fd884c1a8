use Rattle.records.specs.Answer.{bytesOf}
use Rattle.records.proofs.Stores.{last-steps}
use Rattle.records.proofs.writer.put_last.Goals as goal

pub returns : goal.returns
returns c = let a = c.args in rw c.bytes-size.ensures.is (last-steps (bytesOf a.width) a.number a.stop a.value c.write_field.ensures)
