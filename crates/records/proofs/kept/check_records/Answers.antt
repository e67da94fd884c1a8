use Rattle.std.proofs.Common.{sym, ◌∙◌}
use Rattle.records.specs.Answer.{bytesOf}
use Rattle.records.proofs.Records.{some-left, none-left}
use Rattle.records.proofs.Walks.{forward, bad-here, bad-on, bad-out}
use Rattle.rules.proofs.Refusals.{raised}
use Rattle.records.proofs.kept.check_records.Goals as goal

pub returns-in_err-check_record : goal.returns-in_err-check_record
returns-in_err-check_record c = rw (raised c.from_residual.result c.from_residual.ensures.1)
    (bad-here (bytesOf c.args.width) _ (some-left _ c.loop-rest-test.ensures) _ c.in_err-check_record.ensures ∙ c.loop-rest.invariant)

pub behind_record-rest-requires : goal.behind_record-rest-requires
behind_record-rest-requires c = sym c.in_ok-check_record.ensures

pub loop-rest-smaller : goal.loop-rest-smaller
loop-rest-smaller c = rw c.behind_record-rest.ensures (forward (bytesOf c.args.width) _ (some-left _ c.loop-rest-test.ensures))

pub loop-rest-preserved : goal.loop-rest-preserved
loop-rest-preserved c = rw c.behind_record-rest.ensures (sym (bad-on (bytesOf c.args.width) _ (sym c.in_ok-check_record.ensures)) ∙ c.loop-rest.invariant)

pub returns : goal.returns
returns c = sym (bad-out (bytesOf c.args.width) _ (none-left _ c.loop-rest-test.ensures)) ∙ c.loop-rest.invariant
