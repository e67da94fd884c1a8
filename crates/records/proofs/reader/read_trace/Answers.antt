use Rattle.std.proofs.Common.{◌+◌, ◌-◌, ◌≡◌, refl, sym, ◌∙◌, arith}
use Rattle.rules.specs.Trace.{wide}
use Rattle.records.proofs.Walks.{read-on, read-stop, read-here}
use Rattle.rules.proofs.Refusals.{raised}
use Rattle.records.proofs.reader.read_trace.Goals as goal

pub loop-init : goal.loop-init
loop-init c = let n : c.args.number - 0 ≡ c.args.number = omega arith in rw n refl

pub returns-in_err-check_record : goal.returns-in_err-check_record
returns-in_err-check_record c = rw (raised c.from_residual.result c.from_residual.ensures.1) (read-stop wide _ _ _ c.in_err-check_record.ensures ∙ c.loop.invariant)

pub behind_record-rest-requires : goal.behind_record-rest-requires
behind_record-rest-requires c = sym c.in_ok-check_record.ensures

pub loop-preserved : goal.loop-preserved
loop-preserved c = let left = c.args.number - c.loop.counter in
    let less : c.args.number - (c.loop.counter + 1) ≡ left - 1 = omega arith in
    rw (less, c.behind_record-rest.ensures) (sym (read-on wide _ left (omega arith) (sym c.in_ok-check_record.ensures)) ∙ c.loop.invariant)

pub returns-in_err-check_record-2 : goal.returns-in_err-check_record-2
returns-in_err-check_record-2 c = rw (raised c.from_residual-in_err-check_record-2.result c.from_residual-in_err-check_record-2.ensures.1)
    (read-stop wide _ _ _ c.in_err-check_record-2.ensures ∙ c.loop.invariant)

pub first_record-requires : goal.first_record-requires
first_record-requires c = sym c.in_ok-check_record-2.ensures

pub returns : goal.returns
returns c = c.first_record.ensures ∙ sym (read-here wide _ (c.args.number - c.loop.counter) (omega arith)) ∙ c.loop.invariant
