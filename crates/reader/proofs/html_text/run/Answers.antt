use Rattle.std.proofs.Common.{length, sym, ap, ◌∙◌}
use Rattle.rules.specs.Scan.{inlineAnswer}
use Rattle.html.proofs.Turn.{ended, stop-is}
use Rattle.reader.proofs.Turns.{turned}
use Rattle.reader.proofs.html_text.run.Goals as goal

pub returns-in-Ok : goal.returns-in-Ok
returns-in-Ok c = let text = c.args.text.now in
    stop-is text c.loop-index.index c.stepped-scanner.result.size c.loop-index-test.true
    ∙ ap (inlineAnswer (length text)) (sym (turned _ _ _ _ _ _ c.loop-index-test.true c.loop-index.invariant.0 c.stepped-scanner.ensures c.in-Ok.is) ∙ c.loop-index.invariant.1)

pub returns-in-Nok : goal.returns-in-Nok
returns-in-Nok c = let text = c.args.text.now in
    ap (inlineAnswer (length text)) (sym (turned _ _ _ _ _ _ c.loop-index-test.true c.loop-index.invariant.0 c.stepped-scanner.ensures c.in-Nok.is) ∙ c.loop-index.invariant.1)

pub loop-index-preserved : goal.loop-index-preserved
loop-index-preserved c = (c.in-Going.is, sym (turned _ _ _ _ _ _ c.loop-index-test.true c.loop-index.invariant.0 c.stepped-scanner.ensures c.in-Going.is) ∙ c.loop-index.invariant.1)

pub returns : goal.returns
returns c = let text = c.args.text.now in
    ap (inlineAnswer (length text)) (sym (ended _ _ _ _ _ c.loop-index-test.false) ∙ c.loop-index.invariant.1)
