use Rattle.std.proofs.Common.{sym, refl, ◌∙◌, ap}
use Rattle.rules.specs.Block.{tagName}
use Rattle.flow.proofs.OpenSteps.{asked-there, renamed, first-test, before-in, before-other}
use Rattle.flow.proofs.html_flow.before.Goals as goal

pub returns-then-eq : goal.returns-then-eq
returns-then-eq c = let a = c.args in
    let s = asked-there c.peek.result a.line.now a.at c.peek.ensures 60 refl _ c.eq.ensures c.if-eq.true in
    record { kind = c.«open».ensures.kind ∙ sym (before-in a.rules a.flag _ _ s); names = renamed c.«open».result _ _ (ap tagName (sym s)) c.«open».ensures.names }

pub returns-clause-kind : goal.returns-clause-kind
returns-clause-kind c = let a = c.args in sym (before-other a.rules a.flag _ (first-test c.peek.result a.line.now a.at c.peek.ensures 60 refl _ c.eq.ensures ∙ c.if-eq.false))
