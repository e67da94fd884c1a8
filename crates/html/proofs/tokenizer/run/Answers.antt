use Rattle.std.proofs.Common.{sym, ◌∙◌, ap, length}
use Rattle.rules.specs.Scan.{inlineAnswer}
use Rattle.html.specs.declared.tokenizer.State.TheVariants.{Next, Ok, Nok}
use Rattle.html.proofs.Body.{body-behind}
use Rattle.html.proofs.Turn.{turn, ended, stop-is}
use Rattle.html.proofs.tokenizer.run.Goals as goal

pub loop-index-preserved : goal.loop-index-preserved
loop-index-preserved c = sym (body-behind _ _ _ _ _ _ c.body_end-index.ensures)
    ∙ sym (turn _ _ _ _ _ (Next _ _) c.loop-index-test.true (sym c.in-Next.is ∙ c.step.ensures)) ∙ c.loop-index.invariant

pub returns-in-Ok : goal.returns-in-Ok
returns-in-Ok c = let text = c.args.text.now in
    stop-is text c.loop-index.index c.loop-index.size c.loop-index-test.true
    ∙ ap (inlineAnswer (length text)) (sym (turn _ _ _ _ _ Ok c.loop-index-test.true (sym c.in-Ok.is ∙ c.step.ensures)) ∙ c.loop-index.invariant)

pub returns-in-Nok : goal.returns-in-Nok
returns-in-Nok c = let text = c.args.text.now in
    ap (inlineAnswer (length text)) (sym (turn _ _ _ _ _ Nok c.loop-index-test.true (sym c.in-Nok.is ∙ c.step.ensures)) ∙ c.loop-index.invariant)

pub returns : goal.returns
returns c = let text = c.args.text.now in
    ap (inlineAnswer (length text)) (sym (ended _ _ _ _ _ c.loop-index-test.false) ∙ c.loop-index.invariant)
