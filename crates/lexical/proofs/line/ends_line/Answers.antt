use Rattle.std.proofs.Common.{◌+◌, not, drop, ap, sym, ◌∙◌, refl, ne_eqb}
use Rattle.std.proofs.lemmas.List.{drop-drop}
use Rattle.std.specs.Option.{unwrap_or}
use Rattle.lexical.specs.Text.{none}
use Rattle.lexical.specs.Line.{endsLine}
use Rattle.lexical.proofs.Peek.{asked}
use Rattle.lexical.proofs.line.ends_line.Goals as goal

pub returns-in-Some-eq10 : goal.returns-in-Some-eq10
unfolding endsLine
returns-in-Some-eq10 c = let lf = c.in-Some-eq10 in rw (sym lf.ensures ∙ lf.field-0-test)

pub returns-in-Some-eq13 : goal.returns-in-Some-eq13
unfolding endsLine
returns-in-Some-eq13 c = let a = c.args in let cr = c.in-Some-eq13 in
    rw (sym cr.ensures ∙ cr.field-0-test, drop-drop 1 a.index a.bytes.now)
    (c.ne.ensures ∙ ap not (asked c.peek-in-Some-eq13.result (drop (a.index + 1) a.bytes.now) 10 refl c.peek-in-Some-eq13.ensures))

pub returns-in_default : goal.returns-in_default
unfolding endsLine
returns-in_default c = let other = c.in_default in
    rw (ne_eqb _ _ (λ e. other.field-0-test.0.1 (other.ensures ∙ e)), ne_eqb _ _ (λ e. other.field-0-test.1 (other.ensures ∙ e)))

pub returns-in_default-2 : goal.returns-in_default-2
unfolding endsLine
returns-in_default-2 c = let end = sym c.peek.ensures ∙ ap (λ r. unwrap_or r none) c.in_default.is in rw end
