use Rattle.std.proofs.Common.{◌+◌, drop, refl, sym, ap, ◌∙◌}
use Rattle.flow.specs.ContinuationMachine.{meetsOf}
use Rattle.flow.proofs.ContinuationTurn.{met, turn, ended}
use Rattle.reader.specs.Lent.{lineOf}
use Rattle.reader.specs.declared.html_flow.Line.{Line}
use Rattle.reader.proofs.html_flow.meets_closer.Goals as goal

pub returns-then-is_close : goal.returns-then-is_close
returns-then-is_close c = sym (met _ _ _ _ (sym c.is_close.ensures ∙ c.if-is_close.true)) ∙ c.loop-byte.invariant

pub loop-byte-preserved : goal.loop-byte-preserved
unfolding lineOf
loop-byte-preserved c = let a = c.args in
    ap (λ (t : Line). meetsOf a.rules t.kind t.name (drop (c.loop-byte.byte-index + 1) a.line.now)) c.step.ensures
    ∙ sym (turn a.rules _ a.line.now _ c.loop-byte.byte-index _ c.loop-byte-test.true refl (sym c.is_close.ensures ∙ c.if-is_close.false)) ∙ c.loop-byte.invariant

pub returns : goal.returns
returns c = c.is_close-2.ensures ∙ sym (ended _ _ _ _ _ c.loop-byte-test.false) ∙ c.loop-byte.invariant
