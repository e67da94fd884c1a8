use Rattle.std.proofs.Common.{sym, refl, ap, ◌∙◌, true, false, ne_eqb}
use Rattle.rules.specs.Search.{choose}
use Rattle.flow.proofs.OpenSteps.{there, first-some, first-none, declaration-dash, declaration-cdata, declaration-other}
use Rattle.flow.proofs.html_flow.declaration_open.Goals as goal

pub returns-in-Some-eq45-clause-kind : goal.returns-in-Some-eq45-clause-kind
returns-in-Some-eq45-clause-kind c =
    c.comment_open_inside.ensures.kind ∙ sym (declaration-dash _ _ (there _ c.args.line.now c.args.at c.peek.ensures 45 _ refl c.in-Some-eq45.is c.in-Some-eq45.field-0-test))

pub returns-then-cdata_open_inside-clause-kind : goal.returns-then-cdata_open_inside-clause-kind
returns-then-cdata_open_inside-clause-kind c =
    sym (declaration-cdata _ _ (there _ c.args.line.now c.args.at c.peek.ensures 91 _ refl c.in-Some-eq91.is c.in-Some-eq91.field-0-test)
    ∙ ap (λ t. choose t (λ _. 5) (λ _. 0)) (sym c.cdata_open_inside.ensures ∙ c.if-cdata_open_inside.true))

pub returns-else-cdata_open_inside-clause-kind : goal.returns-else-cdata_open_inside-clause-kind
returns-else-cdata_open_inside-clause-kind c =
    sym (declaration-cdata _ _ (there _ c.args.line.now c.args.at c.peek.ensures 91 _ refl c.in-Some-eq91.is c.in-Some-eq91.field-0-test)
    ∙ ap (λ t. choose t (λ _. 5) (λ _. 0)) (sym c.cdata_open_inside.ensures ∙ c.if-cdata_open_inside.false))

pub returns-in-Some-clause-kind : goal.returns-in-Some-clause-kind
returns-in-Some-clause-kind c = let t = c.in-Some.b-test in
    sym (declaration-other _ _ true (first-some _ c.args.line.now c.args.at c.peek.ensures _ c.in-Some.is) (ne_eqb _ _ t.0.1) (ne_eqb _ _ t.1) (sym c.is_letter.ensures ∙ c.if-is_letter.true))

pub returns-in_default-clause-kind : goal.returns-in_default-clause-kind
returns-in_default-clause-kind c = let t = c.in-Some.b-test in
    sym (declaration-other _ _ false (first-some _ c.args.line.now c.args.at c.peek.ensures _ c.in-Some.is) (ne_eqb _ _ t.0.1) (ne_eqb _ _ t.1) (sym c.is_letter.ensures ∙ c.if-is_letter.false))

pub returns-in_default-2-clause-kind : goal.returns-in_default-2-clause-kind
returns-in_default-2-clause-kind c = sym (declaration-other _ _ false (first-none _ c.args.line.now c.args.at c.peek.ensures c.in_default.is) refl refl refl)
