use Rattle.std.proofs.Common.{arith, ap, length}
use Rattle.rules.specs.Trace.{recordBytes}
use Rattle.records.specs.Answer.{bytesOf}
use Rattle.records.proofs.Records.{some-left, none-left}
use Rattle.records.proofs.Walks.{forward}
use Rattle.records.proofs.Turns.{begins, stands-flaw, room, put-fits, goes-on, done}
use Rattle.records.proofs.convert.write_records.Goals as goal

pub loop-rest-init : goal.loop-rest-init
loop-rest-init c = let a = c.args in begins (bytesOf a.to) (bytesOf a.from) a.trace.now a.out.now c.requires.taken

pub first_record-requires : goal.first_record-requires
first_record-requires c = stands-flaw _ _ c.loop-rest.invariant (some-left _ c.loop-rest-test.ensures)

pub put_record-requires : goal.put_record-requires
put_record-requires c = let a = c.args in
    omega (arith, ap (λ r. length (recordBytes (bytesOf a.to) r)) c.first_record.ensures, room _ _ c.loop-rest.invariant (some-left _ c.loop-rest-test.ensures) c.requires.room)

pub overflow_add-put : goal.overflow_add-put
overflow_add-put c = omega (arith, put-fits _ _ c.loop-rest.invariant (some-left _ c.loop-rest-test.ensures) c.requires.room, c.record_length-put.ensures)

pub behind_record-rest-requires : goal.behind_record-rest-requires
behind_record-rest-requires c = stands-flaw _ _ c.loop-rest.invariant (some-left _ c.loop-rest-test.ensures)

pub loop-rest-smaller : goal.loop-rest-smaller
loop-rest-smaller c = rw c.behind_record-rest.ensures (forward (bytesOf c.args.from) _ (some-left _ c.loop-rest-test.ensures))

pub loop-rest-preserved : goal.loop-rest-preserved
loop-rest-preserved c = goes-on _ _ c.loop-rest.invariant (some-left _ c.loop-rest-test.ensures) _ _ c.first_record.ensures c.behind_record-rest.ensures c.record_length-put.ensures c.put_record.ensures

pub returns : goal.returns
returns c = done _ _ c.loop-rest.invariant (none-left _ c.loop-rest-test.ensures)
