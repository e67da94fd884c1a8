use Rattle.std.proofs.Common.{◌∙◌}
use Rattle.records.proofs.Numbers.{two-bytes, four-bytes}
use Rattle.records.proofs.reader.read_field.Goals as goal

pub returns-in-Narrow : goal.returns-in-Narrow
returns-in-Narrow c = rw c.in-Narrow.is (c.from_le_bytes.ensures ∙ two-bytes c.args.trace.now c.args.at)

pub returns-in-Wide : goal.returns-in-Wide
returns-in-Wide c = rw c.in-Wide.is (c.from_le_bytes-in-Wide.ensures ∙ four-bytes c.args.trace.now c.args.at)
