use Rattle.std.proofs.Common.{sym, refl, ◌∙◌, true, false, ne_eqb}
use Rattle.flow.proofs.OpenSteps.{there, renamed, first-some, first-none, open-mark, open-slash, open-question, open-name, name-slash, name-here}
use Rattle.flow.proofs.html_flow.open.Goals as goal

pub returns-in-Some-eq33-clause-kind : goal.returns-in-Some-eq33-clause-kind
returns-in-Some-eq33-clause-kind c = let a = c.args in
    c.declaration_open.ensures.kind ∙ sym (open-mark a.rules a.flag _ _ (there _ a.line.now a.at c.peek.ensures 33 _ refl c.in-Some-eq33.is c.in-Some-eq33.field-0-test))

pub returns-in-Some-eq47 : goal.returns-in-Some-eq47
returns-in-Some-eq47 c = let a = c.args in
    let s = there _ a.line.now a.at c.peek.ensures 47 _ refl c.in-Some-eq47.is c.in-Some-eq47.field-0-test in
    record { kind = c.tag_close_start.ensures.kind ∙ sym (open-slash a.rules a.flag _ _ s); names = renamed c.tag_close_start.result _ _ (sym (name-slash _ _ s)) c.tag_close_start.ensures.names }

pub returns-in-Some-eq63-clause-kind : goal.returns-in-Some-eq63-clause-kind
returns-in-Some-eq63-clause-kind c = let a = c.args in
    sym (open-question a.rules a.flag _ _ (there _ a.line.now a.at c.peek.ensures 63 _ refl c.in-Some-eq63.is c.in-Some-eq63.field-0-test))

pub returns-in-Some : goal.returns-in-Some
returns-in-Some c = let a = c.args in
    let t = c.in-Some.b-test in
    let f = first-some _ a.line.now a.at c.peek.ensures _ c.in-Some.is in
    record {
      kind = c.tag_name.ensures.kind ∙ sym (open-name a.rules a.flag _ _ true f (ne_eqb _ _ t.0.0.1) (ne_eqb _ _ t.0.1) (ne_eqb _ _ t.1) (sym c.is_letter.ensures ∙ c.if-is_letter.true));
      names = renamed c.tag_name.result _ _ (sym (name-here _ (rw f (ne_eqb _ _ t.0.1)))) c.tag_name.ensures.names;
    }

pub returns-in_default-clause-kind : goal.returns-in_default-clause-kind
returns-in_default-clause-kind c = let a = c.args in
    let t = c.in-Some.b-test in
    let f = first-some _ a.line.now a.at c.peek.ensures _ c.in-Some.is in
    sym (open-name a.rules a.flag _ _ false f (ne_eqb _ _ t.0.0.1) (ne_eqb _ _ t.0.1) (ne_eqb _ _ t.1) (sym c.is_letter.ensures ∙ c.if-is_letter.false))

pub returns-in_default-2-clause-kind : goal.returns-in_default-2-clause-kind
returns-in_default-2-clause-kind c = let a = c.args in sym (open-name a.rules a.flag _ _ false (first-none _ a.line.now a.at c.peek.ensures c.in_default.is) refl refl refl refl)
