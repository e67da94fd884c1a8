use Rattle.std.proofs.Common.{sym, ◌∙◌}
use Rattle.records.specs.Answer.{bytesOf}
use Rattle.rules.proofs.Refusals.{raised}
use Rattle.records.proofs.Refusals.{bad-refused, ends-taken, ends-refused}
use Rattle.records.proofs.kept.check_trace.Goals as goal

pub returns-in_err-check_records : goal.returns-in_err-check_records
returns-in_err-check_records c = rw (raised c.from_residual.result c.from_residual.ensures.1) (bad-refused (bytesOf c.args.width) c.args.trace.now _ c.in_err-check_records.ensures)

pub ends_once-requires : goal.ends_once-requires
ends_once-requires c = sym c.in_ok-check_records.ensures

pub returns-then-ends_once : goal.returns-then-ends_once
returns-then-ends_once c = ends-taken (bytesOf c.args.width) c.args.trace.now c.in_ok-check_records.ensures (sym c.ends_once.ensures ∙ c.if-ends_once.true)

pub returns : goal.returns
returns c = ends-refused (bytesOf c.args.width) c.args.trace.now c.in_ok-check_records.ensures (sym c.ends_once.ensures ∙ c.if-ends_once.false)
