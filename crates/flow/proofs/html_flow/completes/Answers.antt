use Rattle.std.proofs.Common.{◌∙◌}
use Rattle.flow.proofs.OpenSteps.{closing-tag, open-tag}
use Rattle.flow.proofs.html_flow.completes.Goals as goal

pub returns-then-closing : goal.returns-then-closing
returns-then-closing c = let a = c.args in rw c.if-closing.true (c.run.ensures ∙ closing-tag a.rules a.raw _)

pub returns-then-rules-raw : goal.returns-then-rules-raw
returns-then-rules-raw c = let a = c.args in
    rw c.if-closing.false (c.run-then-rules-raw.ensures ∙ open-tag a.rules a.raw _ c.if-rules-raw.true)
