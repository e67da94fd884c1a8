use Rattle.std.proofs.Common.{◌≡◌, ◌+◌, false, eqb, drop, sym, refl, ap, ◌∙◌, eq-eqb, ne_eqb, ltb-true, ltb-false}
use Rattle.lexical.specs.Point.{actionOf}
use Rattle.lexical.proofs.Cases.{tests}
use Rattle.lexical.proofs.Moves.{action-in, action-out}
use Rattle.lexical.proofs.Peek.{stands, stands-not}
use Rattle.lexical.proofs.event.Point.byte_action.Goals as goal

pub returns-in_err-byte : goal.returns-in_err-byte
returns-in_err-byte c = ap actionOf c.from_residual.ensures ∙ sym (action-out _ _ _ (ltb-false _ _ (sym c.in_err-byte.ensures.lookup.0)))

pub returns-then-eq : goal.returns-then-eq
returns-then-eq c = let a = c.args in let got = c.in_ok-byte.ensures.lookup in
    sym (action-in a.self a.bytes.now a.self.index (ltb-true _ _ (sym got.0)) ∙ simp (← got.3.1 0, eq-eqb _ _ c.in-13.is, stands c.peek.result (drop (a.self.index + 1) a.bytes.now) 10 _ refl c.peek.ensures c.eq.ensures c.if-eq.true))

pub returns-else-eq : goal.returns-else-eq
returns-else-eq c = let a = c.args in let got = c.in_ok-byte.ensures.lookup in
    sym (action-in a.self a.bytes.now a.self.index (ltb-true _ _ (sym got.0)) ∙ simp (← got.3.1 0, eq-eqb _ _ c.in-13.is, stands-not c.peek.result (drop (a.self.index + 1) a.bytes.now) 10 _ refl c.peek.ensures c.eq.ensures c.if-eq.false))

pub returns-then-tab_readings-eq1 : goal.returns-then-tab_readings-eq1
returns-then-tab_readings-eq1 c = let a = c.args in let got = c.in_ok-byte.ensures.lookup in
    sym (action-in a.self a.bytes.now a.self.index (ltb-true _ _ (sym got.0)) ∙ simp (← got.3.1 0, c.in-9.is, ← c.tab_readings.ensures, eq-eqb _ _ c.if-tab_readings-eq1.true, ← c.tab_read-read.ensures))

pub returns-else-tab_readings-eq1 : goal.returns-else-tab_readings-eq1
returns-else-tab_readings-eq1 c = let a = c.args in let got = c.in_ok-byte.ensures.lookup in
    sym (action-in a.self a.bytes.now a.self.index (ltb-true _ _ (sym got.0)) ∙ simp (← got.3.1 0, c.in-9.is, ← c.tab_readings.ensures, ne_eqb _ _ c.if-tab_readings-eq1.false, ← c.tab_read-read.ensures))

pub returns-in_default : goal.returns-in_default
returns-in_default c = let a = c.args in let got = c.in_ok-byte.ensures.lookup in
    let byte = c.in_ok-byte.field-0.now in
    let cr : eqb byte 13 ≡ false = search tests in
    let tab : eqb byte 9 ≡ false = search tests in
    sym (action-in a.self a.bytes.now a.self.index (ltb-true _ _ (sym got.0)) ∙ simp (← got.3.1 0, cr, tab))
