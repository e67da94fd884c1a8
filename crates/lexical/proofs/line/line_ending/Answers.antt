use Rattle.std.proofs.Common.{◌+◌, drop, sym, refl, ap, ◌∙◌, arith}
use Rattle.std.specs.Option.{unwrap_or}
use Rattle.lexical.specs.Text.{none}
use Rattle.lexical.proofs.Ending.{ending-lf, ending-cr, ending-other}
use Rattle.lexical.proofs.Peek.{stands, stands-not}
use Rattle.lexical.proofs.line.line_ending.Goals as goal

pub returns-in-Some-eq10 : goal.returns-in-Some-eq10
returns-in-Some-eq10 c = let a = c.args in let lf = c.in-Some-eq10 in sym (ending-lf a.bytes.now a.index (sym lf.ensures ∙ lf.field-0-test))

pub returns-then-eq : goal.returns-then-eq
returns-then-eq c = let a = c.args in let cr = c.in-Some-eq13 in
    sym (ending-cr a.bytes.now a.index (sym cr.ensures ∙ cr.field-0-test) ∙ simp (stands c.peek-in-Some-eq13.result (drop (a.index + 1) a.bytes.now) 10 _ refl c.peek-in-Some-eq13.ensures c.eq.ensures c.if-eq.true))

pub returns-else-eq : goal.returns-else-eq
returns-else-eq c = let a = c.args in let cr = c.in-Some-eq13 in
    sym (ending-cr a.bytes.now a.index (sym cr.ensures ∙ cr.field-0-test) ∙ simp (stands-not c.peek-in-Some-eq13.result (drop (a.index + 1) a.bytes.now) 10 _ refl c.peek-in-Some-eq13.ensures c.eq.ensures c.if-eq.false))

pub returns-in_default : goal.returns-in_default
returns-in_default c = let a = c.args in let other = c.in_default in
    sym (ending-other a.bytes.now a.index (λ e. other.field-0-test.0.1 (other.ensures ∙ e)) (λ e. other.field-0-test.1 (other.ensures ∙ e)))

pub returns-in_default-2 : goal.returns-in_default-2
returns-in_default-2 c = let a = c.args in
    let end = sym c.peek.ensures ∙ ap (λ r. unwrap_or r none) c.in_default.is in
    sym (ending-other a.bytes.now a.index (λ e. omega (arith, end, e)) (λ e. omega (arith, end, e)))
