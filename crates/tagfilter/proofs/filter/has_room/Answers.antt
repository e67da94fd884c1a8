use Rattle.std.proofs.Common.{sym, ◌∙◌, arith, le-leb}
use Rattle.lexical.specs.Text.{limit}
use Rattle.tagfilter.proofs.Bound.{filtered-bound}
use Rattle.tagfilter.proofs.filter.has_room.Goals as goal

pub overflow_mul-bulletin : goal.overflow_mul-bulletin
unfolding limit
overflow_mul-bulletin c = omega (arith, c.requires)

pub returns-then-bulletin-room : goal.returns-then-bulletin-room
returns-then-bulletin-room c = let b = c.args.bulletin in
    le-leb _ _ c.if-bulletin-room.true ∙ sym (le-leb _ _ (omega (arith, filtered-bound b.rules b.text.now b.flags.now, c.if-bulletin-room.true)))
