use Rattle.std.proofs.Common.{◌≡◌, false, eqb, get_or, sym, ◌∙◌}
use Rattle.lexical.proofs.Cases.{tests}
use Rattle.lexical.proofs.Moves.{passed-in}
use Rattle.lexical.proofs.event.Point.move_past.Goals as goal

pub returns-then-ends_line : goal.returns-then-ends_line
returns-then-ends_line c = c.next_line.ensures ∙ sym (passed-in _ _ _ c.requires ∙ simp (← c.ends_line.ensures, c.if-ends_line.true))

pub returns-in-13 : goal.returns-in-13
returns-in-13 c = c.skip_byte.ensures ∙ sym (passed-in _ _ _ c.requires ∙ simp (← c.ends_line.ensures, c.if-ends_line.false, c.in-13.is))

pub returns-in-9 : goal.returns-in-9
returns-in-9 c = c.next_byte.ensures ∙ sym (passed-in _ _ _ c.requires ∙ simp (← c.ends_line.ensures, c.if-ends_line.false, c.in-9.is, ← c.tab_readings.ensures))

pub returns-in_default : goal.returns-in_default
returns-in_default c =
    let byte = get_or c.args.bytes.now c.args.index 0 in
    let cr : eqb byte 13 ≡ false = search tests in
    let tab : eqb byte 9 ≡ false = search tests in
    c.next_byte-in_default.ensures ∙ sym (passed-in _ _ _ c.requires ∙ simp (← c.ends_line.ensures, c.if-ends_line.false, cr, tab))
