-- Each return is a row of the table of refusals, or the answer; and where there is room, showing beside what was found is not refused.
use Rattle.std.proofs.Common.{refl, sym, ◌∙◌, arith, length-take-le}
use Rattle.lexical.specs.Text.{limit}
use Rattle.rules.proofs.Refusals.{within-limit}
use Rattle.screen.proofs.Answers.{refused-reads, no-room, list-room, front-fits, front-short, not-err, shown-all}
use Rattle.screen.proofs.withhold.withhold.Goals as goal

pub returns-in_err-check_bulletin : goal.returns-in_err-check_bulletin
returns-in_err-check_bulletin c = let a = c.args in
    let all = refused-reads a.rules a.bulletin.now a.flags.now a.list.now a.out.now c.from_residual.result c.in_err-check_bulletin.field-0.0 c.from_residual.ensures.1 c.in_err-check_bulletin.ensures in
    record { answer = all.answer; list = all.list; buffer = all.buffer }

pub has_room-requires : goal.has_room-requires
has_room-requires c = let a = c.args in within-limit a.bulletin.now a.flags.now (sym c.in_ok-check_bulletin.ensures)

pub returns-then-not-has_room : goal.returns-then-not-has_room
returns-then-not-has_room c = let a = c.args in
    let all = no-room a.rules a.bulletin.now a.flags.now a.list.now a.out.now c.in_ok-check_bulletin.ensures (sym c.has_room.ensures ∙ c.if-not-has_room.true) in
    record { answer = all.answer; list = all.list; buffer = all.buffer }

pub fill-pieces-requires-clause-short : goal.fill-pieces-requires-clause-short
fill-pieces-requires-clause-short c = let a = c.args in within-limit a.bulletin.now a.flags.now (sym c.in_ok-check_bulletin.ensures)

pub fill-pieces-requires-clause-room : goal.fill-pieces-requires-clause-room
fill-pieces-requires-clause-room c = let a = c.args in
    list-room a.rules a.bulletin.now a.flags.now a.list.now a.out.now c.in_ok-check_bulletin.ensures (sym c.has_room.ensures ∙ c.if-not-has_room.false)

pub overflow_mul-pieces : goal.overflow_mul-pieces
unfolding limit
overflow_mul-pieces c = let a = c.args in let f = c.fill-pieces.ensures in
    let z = c.in_ok-check_bulletin.ensures in
    let h = front-short a.rules a.bulletin.now a.flags.now a.list.now a.out.now z (sym c.has_room.ensures ∙ c.if-not-has_room.false) f.pieces-are f.list in
    let s = within-limit a.bulletin.now a.flags.now (sym z) in omega (arith, h, s)

pub slice_bounds-show-end : goal.slice_bounds-show-end
slice_bounds-show-end c = let a = c.args in let f = c.fill-pieces.ensures in
    front-fits a.rules a.bulletin.now a.flags.now a.list.now a.out.now c.in_ok-check_bulletin.ensures (sym c.has_room.ensures ∙ c.if-not-has_room.false) f.pieces-are f.list

pub slice_bounds-show-end-2 : goal.slice_bounds-show-end-2
slice_bounds-show-end-2 c = let a = c.args in let f = c.fill-pieces.ensures in
    sym (length-take-le _ _ (front-fits a.rules a.bulletin.now a.flags.now a.list.now a.out.now c.in_ok-check_bulletin.ensures (sym c.has_room.ensures ∙ c.if-not-has_room.false) f.pieces-are f.list))

pub returns-in_err-length : goal.returns-in_err-length
returns-in_err-length c = let a = c.args in let f = c.fill-pieces.ensures in
    absurd (not-err a.rules a.bulletin.now a.flags.now a.list.now a.out.now c.in_ok-check_bulletin.ensures (sym c.has_room.ensures ∙ c.if-not-has_room.false) f.pieces-are f.list c.in_err-length.field-0.0 refl c.in_err-length.ensures.answer)

pub returns : goal.returns
returns c = let a = c.args in let f = c.fill-pieces.ensures in let s = c.in_ok-length.ensures in
    let all = shown-all a.rules a.bulletin.now a.flags.now a.list.now a.out.now c.in_ok-check_bulletin.ensures (sym c.has_room.ensures ∙ c.if-not-has_room.false) f.pieces-are f.list c.in_ok-length.length refl s.answer s.buffer in
    record { answer = all.answer; list = all.list; buffer = all.buffer }
