use Rattle.std.proofs.Common.{sym, ◌∙◌, ap, eqb, length}
use Rattle.records.specs.Answer.{bytesOf}
use Rattle.records.proofs.Records.{some-left, none-left}
use Rattle.records.proofs.Walks.{forward, no-flaw, none-on, ends-on, ends-last, ends-out}
use Rattle.records.proofs.kept.ends_once.Goals as goal

pub behind_record-rest-requires : goal.behind_record-rest-requires
behind_record-rest-requires c = no-flaw (bytesOf c.args.width) _ (some-left _ c.loop-rest-test.ensures) c.loop-rest.invariant.0

pub returns-then-number-gt-LAST_EVENT : goal.returns-then-number-gt-LAST_EVENT
returns-then-number-gt-LAST_EVENT c = c.is_empty-then-number-gt-LAST_EVENT.ensures
    ∙ ap (λ l. eqb (length l) 0) c.behind_record-rest.ensures
    ∙ ends-last (bytesOf c.args.width) _ (some-left _ c.loop-rest-test.ensures) c.loop-rest.invariant.0 c.if-number-gt-LAST_EVENT.true
    ∙ c.loop-rest.invariant.1

pub loop-rest-smaller : goal.loop-rest-smaller
loop-rest-smaller c = rw c.behind_record-rest.ensures (forward (bytesOf c.args.width) _ (some-left _ c.loop-rest-test.ensures))

pub loop-rest-preserved : goal.loop-rest-preserved
loop-rest-preserved c = let i = c.loop-rest.invariant in
    let h = some-left _ c.loop-rest-test.ensures in
    rw c.behind_record-rest.ensures (none-on (bytesOf c.args.width) _ h i.0, sym (ends-on (bytesOf c.args.width) _ h i.0 c.if-number-gt-LAST_EVENT.false) ∙ i.1)

pub returns : goal.returns
returns c = sym (ends-out (bytesOf c.args.width) _ (none-left _ c.loop-rest-test.ensures)) ∙ c.loop-rest.invariant.1
