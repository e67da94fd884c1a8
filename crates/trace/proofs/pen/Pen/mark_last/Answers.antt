use Rattle.records.specs.Answer.{formNumber}
use Rattle.trace.proofs.Marks.{last-written}
use Rattle.trace.proofs.pen.Pen.mark_last.Goals as goal

pub returns-clause-bytes : goal.returns-clause-bytes
returns-clause-bytes c = last-written (formNumber c.args.form) c.args.stop c.args.value c.requires c.write_record.ensures
