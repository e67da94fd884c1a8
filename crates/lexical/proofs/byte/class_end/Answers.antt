use Rattle.std.proofs.Common.{sym, ◌∙◌}
use Rattle.lexical.proofs.Run.{run-on, run-stop, run-over}
use Rattle.lexical.proofs.byte.class_end.Goals.{then-loop-i-test+else-is, else-loop-i-test}
use Rattle.lexical.proofs.byte.class_end.Goals as goal

pub loop-i-preserved : goal.loop-i-preserved
loop-i-preserved g c = λ f t. run-on f _ _ c.loop-i-test.true (sym (t _ _ c.is.ensures) ∙ c.if-is.true) ∙ c.loop-i.invariant f t

pub returns : goal.returns
returns g c =
    λ f t.
    elim c.loop-i-test.branch [
      | then-loop-i-test+else-is w ↦ sym (run-stop f _ _ w.loop-i-test.true (sym (t _ _ w.is.ensures) ∙ w.if-is.false)) ∙ c.loop-i.invariant f t
      | else-loop-i-test w ↦ sym (run-over f _ _ w.loop-i-test.false) ∙ c.loop-i.invariant f t
    ]
