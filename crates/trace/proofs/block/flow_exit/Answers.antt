use Rattle.std.proofs.Common.{sym, ◌∙◌}
use Rattle.trace.proofs.Empty.{exit-late, exit-closed, exit-far, exit-near}
use Rattle.trace.proofs.block.flow_exit.Goals as goal
use Rattle.trace.proofs.block.flow_exit.Goals.{else-has_closer-via-then-has_closer+then-is_none+else-ends_empty, else-has_closer-via-then-has_closer+else-is_none, else-has_closer-via-else-has_closer}

pub returns-then-ends_empty : goal.returns-then-ends_empty
returns-then-ends_empty c = c.next_line.ensures ∙ sym (exit-far _ _ _ _ _ (sym c.if-has_closer.ensures) c.if-is_none.ensures (sym c.if-ends_empty.ensures))

pub returns : goal.returns
returns c = sym (elim c.else-has_closer.branch [
  | else-has_closer-via-then-has_closer+then-is_none+else-ends_empty w ↦ exit-near _ _ _ _ _ (sym w.if-has_closer.ensures) w.if-is_none.ensures (sym w.if-ends_empty.ensures)
  | else-has_closer-via-then-has_closer+else-is_none w ↦ exit-closed _ _ _ _ _ (sym w.if-has_closer.ensures) w.if-is_none.ensures
  | else-has_closer-via-else-has_closer w ↦ exit-late _ _ _ _ _ (sym w.if-has_closer.ensures)
])
