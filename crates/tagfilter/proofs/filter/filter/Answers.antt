-- Each return is a row of the table of refusals, or the answer.
use Rattle.std.proofs.Common.{sym, ◌∙◌, length, leb-true, leb-false}
use Rattle.rules.specs.Filter.{filtered, filter, filterRefusal}
use Rattle.rules.proofs.Refusals.{within-limit}
use Rattle.rules.proofs.Outputs.{told-by, passed-on, not-written, fits}
use Rattle.tagfilter.proofs.filter.filter.Goals as goal

pub returns-in_err-check_bulletin : goal.returns-in_err-check_bulletin
unfolding filter filterRefusal
returns-in_err-check_bulletin c = let a = c.args in
    let output = filtered a.rules a.bulletin.now a.flags.now in
    let both = passed-on (length output) output a.out.now c.from_residual.result c.in_err-check_bulletin.field-0.0 c.from_residual.ensures.1 c.in_err-check_bulletin.ensures in
    record { answer = both.answer; buffer = both.buffer }

pub has_room-requires : goal.has_room-requires
has_room-requires c = let a = c.args in within-limit a.bulletin.now a.flags.now (sym c.in_ok-check_bulletin.ensures)

pub returns-then-not-has_room : goal.returns-then-not-has_room
unfolding filter filterRefusal
returns-then-not-has_room c = let a = c.args in
    let output = filtered a.rules a.bulletin.now a.flags.now in
    let both = told-by _ output a.out.now 0 c.in_ok-check_bulletin.ensures (not-written (length output) output a.out.now (leb-false _ _ (sym c.has_room.ensures ∙ c.if-not-has_room.true))) in
    record { answer = both.answer; buffer = both.buffer }

pub returns : goal.returns
unfolding filter filterRefusal
returns c = let a = c.args in
    let output = filtered a.rules a.bulletin.now a.flags.now in
    let both = told-by _ output a.out.now 0 c.in_ok-check_bulletin.ensures (fits _ output a.out.now (leb-true _ _ (sym c.has_room.ensures ∙ c.if-not-has_room.false)) c.show.ensures) in
    record { answer = both.answer; buffer = both.buffer }
