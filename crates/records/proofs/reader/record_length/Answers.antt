use Rattle.std.proofs.Common.{arith}
use Rattle.records.specs.Answer.{bytesOf}
use Rattle.records.proofs.Records.{event-size, last-size}
use Rattle.records.proofs.reader.record_length.Goals as goal

pub returns-then-kind-le-LAST_EVENT : goal.returns-then-kind-le-LAST_EVENT
returns-then-kind-le-LAST_EVENT c = omega (arith, event-size (bytesOf c.args.width) c.args.kind c.if-kind-le-LAST_EVENT.true)

pub returns : goal.returns
returns c = omega (arith, last-size (bytesOf c.args.width) c.args.kind c.if-kind-le-LAST_EVENT.false)
