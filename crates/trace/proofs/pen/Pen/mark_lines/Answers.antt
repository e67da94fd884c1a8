use Rattle.std.proofs.Common.{sym, ◌∙◌, arith}
use Rattle.rules.proofs.Cut.{to-within}
use Rattle.trace.proofs.Turns.{left-start, left-on, left-room, left-none, further, met}
use Rattle.trace.proofs.pen.Pen.mark_lines.Goals as goal

pub loop-form-init : goal.loop-form-init
loop-form-init c = left-start c.requires.within

pub mark_line-requires-clause-room : goal.mark_line-requires-clause-room
mark_line-requires-clause-room c = left-room c.loop-form.invariant (met _ _ c.line_ending.ensures c.loop-form-test.true) c.requires.room

pub loop-form-smaller : goal.loop-form-smaller
loop-form-smaller c = let pen = c.loop-form.self in
    let h = met _ _ c.line_ending.ensures c.loop-form-test.true in
    let m = c.mark_line.ensures in
    rw m.marked.kept.front (omega (arith, m.stands, further pen.front.now pen.point.index h, to-within pen.front.now pen.point.index c.loop-form.invariant.within))

pub loop-form-preserved : goal.loop-form-preserved
loop-form-preserved c = let m = c.mark_line.ensures in
    left-on c.loop-form.invariant (met _ _ c.line_ending.ensures c.loop-form-test.true) m.marked m.stands

pub returns-clause-marked : goal.returns-clause-marked
returns-clause-marked c = left-none c.loop-form.invariant (sym c.line_ending.ensures ∙ omega (arith, c.loop-form-test.false))
