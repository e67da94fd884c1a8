-- Each return is one case of the recursion in specs/ContinuationMachine.antt.
use Rattle.std.proofs.Common.{sym, refl, ◌∙◌, ap, ne_eqb}
use Rattle.lexical.specs.Name.{isRawName}
use Rattle.flow.proofs.NameSteps.{raw-is}
use Rattle.flow.proofs.OpenSteps.{first-some, first-none}
use Rattle.flow.proofs.RawEnd.{at-mark, at-letter, at-last, at-other}
use Rattle.flow.proofs.html_flow.+continuation_raw_end_tag.Goals as goal

pub returns-in-Some-eq62 : goal.returns-in-Some-eq62
returns-in-Some-eq62 t c = let a = c.args in
    c.is_some.ensures
    ∙ sym (raw-is _ _ c.raw_place.ensures)
    ∙ ap isRawName c.from_indices.ensures
    ∙ sym (at-mark a.line.now a.start a.at c.requires _ (first-some _ a.line.now a.at c.peek.ensures _ c.in-Some-eq62.is) a.allowed c.in-Some-eq62.field-0-test)

pub returns-in-Some : goal.returns-in-Some
returns-in-Some t c = let a = c.args in
    c.continuation_raw_end_tag.ensures
    ∙ sym (at-letter a.line.now a.start a.at c.requires _ (first-some _ a.line.now a.at c.peek.ensures _ c.in-Some.is) (ne_eqb _ _ c.in-Some.b-test.1) a.allowed (sym c.is_letter.ensures ∙ c.if-is_letter.true) c.if-allowed-gt0.true)

pub returns-in_default : goal.returns-in_default
returns-in_default t c = let a = c.args in
    sym (at-last a.line.now a.start a.at c.requires _ (first-some _ a.line.now a.at c.peek.ensures _ c.in-Some.is) (ne_eqb _ _ c.in-Some.b-test.1) a.allowed c.if-allowed-gt0.false)

pub returns-in_default-2 : goal.returns-in_default-2
returns-in_default-2 t c = let a = c.args in
    sym (at-other a.line.now a.start a.at c.requires _ (first-some _ a.line.now a.at c.peek.ensures _ c.in-Some.is) (ne_eqb _ _ c.in-Some.b-test.1) a.allowed (sym c.is_letter.ensures ∙ c.if-is_letter.false))

pub returns-in_default-3 : goal.returns-in_default-3
returns-in_default-3 t c = let a = c.args in
    sym (at-other a.line.now a.start a.at c.requires _ (first-none _ a.line.now a.at c.peek.ensures c.in_default.is) refl a.allowed refl)
