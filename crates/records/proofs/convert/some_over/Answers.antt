use Rattle.std.proofs.Common.{refl, sym, ◌∙◌, ap}
use Rattle.rules.specs.Trace.{wide}
use Rattle.records.specs.Conversion.{isOver}
use Rattle.records.proofs.Records.{some-left, none-left}
use Rattle.records.proofs.Walks.{forward, no-flaw, none-on}
use Rattle.records.proofs.Conversion.{none-bad}
use Rattle.records.proofs.Turns.{over-here, over-on, over-out}
use Rattle.records.proofs.convert.some_over.Goals as goal

pub loop-rest-init : goal.loop-rest-init
loop-rest-init c = (none-bad wide c.args.trace.now c.requires, refl)

pub first_record-requires : goal.first_record-requires
first_record-requires c = no-flaw wide _ (some-left _ c.loop-rest-test.ensures) c.loop-rest.invariant.0

pub returns-then-is_over : goal.returns-then-is_over
returns-then-is_over c = sym (over-here _ (some-left _ c.loop-rest-test.ensures) (ap isOver (sym c.first_record.ensures) ∙ sym c.if-is_over.ensures)) ∙ c.loop-rest.invariant.1

pub behind_record-rest-requires : goal.behind_record-rest-requires
behind_record-rest-requires c = no-flaw wide _ (some-left _ c.loop-rest-test.ensures) c.loop-rest.invariant.0

pub loop-rest-smaller : goal.loop-rest-smaller
loop-rest-smaller c = rw c.behind_record-rest.ensures (forward wide _ (some-left _ c.loop-rest-test.ensures))

pub loop-rest-preserved : goal.loop-rest-preserved
loop-rest-preserved c = let i = c.loop-rest.invariant in
    let h = some-left _ c.loop-rest-test.ensures in
    rw c.behind_record-rest.ensures (none-on wide _ h i.0, sym (over-on _ h (ap isOver (sym c.first_record.ensures) ∙ sym c.if-is_over.ensures)) ∙ i.1)

pub returns : goal.returns
returns c = sym (over-out _ (none-left _ c.loop-rest-test.ensures)) ∙ c.loop-rest.invariant.1
