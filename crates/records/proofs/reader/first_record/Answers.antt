-- Where nothing is wrong the whole record is there (`whole_there`), and the fields at their places are those of the definition.
use Rattle.std.proofs.Common.{sym}
use Rattle.records.specs.Answer.{bytesOf}
use Rattle.records.proofs.Records.{whole, event-at, last-at}
use Rattle.records.proofs.reader.first_record.Goals as goal

pub event_of-kind-requires-clause-from : goal.event_of-kind-requires-clause-from
event_of-kind-requires-clause-from c = (whole (bytesOf c.args.width) c.args.bytes.now c.requires).from

pub form_of-requires-clause-to : goal.form_of-requires-clause-to
form_of-requires-clause-to c = (whole (bytesOf c.args.width) c.args.bytes.now c.requires).to

pub returns-then-number-le-LAST_EVENT : goal.returns-then-number-le-LAST_EVENT
returns-then-number-le-LAST_EVENT c = rw (c.event_of-kind.ensures, c.read_field.ensures, c.read_field-then-number-le-LAST_EVENT.ensures, c.read_field-then-number-le-LAST_EVENT-2.ensures, c.bytes-size.ensures.is) (sym (event-at (bytesOf c.args.width) c.args.bytes.now c.requires c.if-number-le-LAST_EVENT.true))

pub returns : goal.returns
returns c = rw (c.form_of.ensures, c.read_field-2.ensures, c.bytes-size.ensures.is) (sym (last-at (bytesOf c.args.width) c.args.bytes.now c.requires c.if-number-le-LAST_EVENT.false))
