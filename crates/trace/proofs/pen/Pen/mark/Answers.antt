-- The point moved to the index is that of the index, so its record is the event's.
use Rattle.std.proofs.Common.{refl, arith}
use Rattle.lexical.proofs.Stores.{same}
use Rattle.records.specs.Answer.{eventNumber}
use Rattle.trace.proofs.Marks.{arrives, index-is, vs-small, stands-there, event-written}
use Rattle.trace.proofs.pen.Pen.mark.Goals as goal

pub overflow_cast-record : goal.overflow_cast-record
overflow_cast-record c = let pen = c.args.self.now in
    let p = c.move_to-point.result in
    omega (arith, vs-small pen.text.now pen.small c.requires.forward.1 p (arrives pen.text.now pen.point p pen.stands c.requires.forward.0 c.move_to-point.ensures))

pub invariant_of-self : goal.invariant_of-self
invariant_of-self c = let pen = c.args.self.now in
    let p = c.move_to-point.result in
    record { small = pen.small; within = pen.within; stands = stands-there pen.text.now pen.small c.requires.forward.1 p (arrives pen.text.now pen.point p pen.stands c.requires.forward.0 c.move_to-point.ensures) }

pub returns-clause-marked : goal.returns-clause-marked
returns-clause-marked c = let pen = c.args.self.now in
    let p = c.move_to-point.result in
    record {
      kept = record { text = refl; front = refl; lent = refl; size = same c.write_record.ensures };
      bytes = event-written pen.text.now (eventNumber c.args.kind c.args.name) c.args.index p (arrives pen.text.now pen.point p pen.stands c.requires.forward.0 c.move_to-point.ensures) c.requires.room c.write_record.ensures;
      at-is = refl;
    }

pub returns-clause-stands : goal.returns-clause-stands
returns-clause-stands c = let pen = c.args.self.now in
    let p = c.move_to-point.result in
    index-is pen.text.now pen.small c.requires.forward.1 p (arrives pen.text.now pen.point p pen.stands c.requires.forward.0 c.move_to-point.ensures)
