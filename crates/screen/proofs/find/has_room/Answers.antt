use Rattle.std.proofs.Common.{arith, leb-true}
use Rattle.std.proofs.lemmas.Bool.{and_parts}
use Rattle.lexical.specs.Text.{limit}
use Rattle.screen.proofs.Finding.{room-for-all, room-for, pieces-most}
use Rattle.screen.proofs.find.has_room.Goals as goal

pub overflow_mul-most : goal.overflow_mul-most
unfolding limit
overflow_mul-most c = let h = c.requires in omega (arith, h)

pub returns-then-most-list : goal.returns-then-most-list
returns-then-most-list c = let b = c.args.bulletin in
    let h = and_parts _ _ c.if-most-list.true in room-for-all b c.args.list c.args.room (leb-true _ _ h.0) (leb-true _ _ h.1)

pub overflow_mul-result : goal.overflow_mul-result
unfolding limit
overflow_mul-result c = let h = pieces-most c.args.bulletin c.measure-withheld.ensures in let s = c.requires in omega (arith, h, s)

pub returns : goal.returns
returns c = let b = c.args.bulletin in room-for b c.measure-withheld.ensures c.args.list c.args.room
