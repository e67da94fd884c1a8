-- Each return is a row of the table of refusals, or the answer.
use Rattle.std.proofs.Common.{sym}
use Rattle.rules.specs.Withhold.{count}
use Rattle.rules.specs.Spans.{foundSpans, find, findRefusal}
use Rattle.rules.proofs.Refusals.{within-limit}
use Rattle.rules.proofs.Outputs.{told-by, passed-on, not-written, all-written, fits}
use Rattle.screen.proofs.Answers.{list-short, list-fits}
use Rattle.screen.proofs.find.find.Goals as goal

pub returns-in_err-check_bulletin : goal.returns-in_err-check_bulletin
unfolding find findRefusal
returns-in_err-check_bulletin c = let a = c.args in
    let number = count a.rules a.bulletin.now a.flags.now in
    let spans = foundSpans a.rules a.bulletin.now a.flags.now in
    let both = passed-on number spans a.list.now c.from_residual.result c.in_err-check_bulletin.field-0.0 c.from_residual.ensures.1 c.in_err-check_bulletin.ensures in
    record { answer = both.answer; list = both.buffer }

pub has_room-requires : goal.has_room-requires
has_room-requires c = let a = c.args in within-limit a.bulletin.now a.flags.now (sym c.in_ok-check_bulletin.ensures)

pub returns-then-not-has_room : goal.returns-then-not-has_room
unfolding find findRefusal
returns-then-not-has_room c = let a = c.args in
    let number = count a.rules a.bulletin.now a.flags.now in
    let spans = foundSpans a.rules a.bulletin.now a.flags.now in
    let short = list-short a.rules a.bulletin.now a.flags.now _ c.has_room.ensures c.if-not-has_room.true in
    let both = told-by _ spans a.list.now 0 c.in_ok-check_bulletin.ensures (not-written number spans a.list.now short) in
    record { answer = both.answer; list = both.buffer }

pub fill-requires-clause-short : goal.fill-requires-clause-short
fill-requires-clause-short c = let a = c.args in within-limit a.bulletin.now a.flags.now (sym c.in_ok-check_bulletin.ensures)

pub fill-requires-clause-room : goal.fill-requires-clause-room
fill-requires-clause-room c = let a = c.args in list-fits a.rules a.bulletin.now a.flags.now _ c.has_room.ensures c.if-not-has_room.false

pub returns : goal.returns
unfolding find findRefusal
returns c = let a = c.args in
    let number = count a.rules a.bulletin.now a.flags.now in
    let spans = foundSpans a.rules a.bulletin.now a.flags.now in
    let room = list-fits a.rules a.bulletin.now a.flags.now _ c.has_room.ensures c.if-not-has_room.false in
    let done = all-written number spans a.list.now _ c.fill.ensures.pieces-are c.fill.ensures.list in
    let both = told-by _ spans a.list.now 0 c.in_ok-check_bulletin.ensures (fits _ spans a.list.now room done) in
    record { answer = both.answer; list = both.buffer }
