use Rattle.std.proofs.Common.{sym, ◌∙◌}
use Rattle.runs.proofs.Spans.{good-spans}
use Rattle.spans.proofs.Stretches.{good-part, no-part}
use Rattle.spans.proofs.stretch.stretch_part.Goals as goal

pub part_of-requires : goal.part_of-requires
part_of-requires c = let a = c.args in good-spans a.bulletin.now a.spans.now (sym c.in-Ok.ensures)

pub returns-in-Ok : goal.returns-in-Ok
returns-in-Ok c = let a = c.args in c.part_of.ensures ∙ good-part a.bulletin.now a.spans.now a.number c.in-Ok.ensures

pub returns-in-Err : goal.returns-in-Err
returns-in-Err c = let a = c.args in no-part a.bulletin.now a.spans.now a.number c.in-Err.field-0 c.in-Err.ensures
