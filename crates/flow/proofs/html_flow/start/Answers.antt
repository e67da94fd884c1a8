use Rattle.std.proofs.Common.{◌≡◌, refl, sym, ◌∙◌, ap, [], ◌<◌, ◌≤◌, arith, drop}
use Rattle.rules.specs.Lines.{line}
use Rattle.rules.specs.Block.{indentation, kindAt, tagName, placeOf}
use Rattle.flow.proofs.OpenSteps.{renamed, too-deep, not-deep}
use Rattle.flow.proofs.html_flow.start.Goals as goal

pub returns-then-indent-ge-TAB_SIZE : goal.returns-then-indent-ge-TAB_SIZE
unfolding placeOf
returns-then-indent-ge-TAB_SIZE c = let a = c.args in
    let e : c.inside-indent.result ≡ indentation a.line.now = c.inside-indent.ensures ∙ omega arith in
    let h : 3 < indentation a.line.now = omega (arith, e, c.if-indent-ge-TAB_SIZE.true) in
    record { kind = sym (too-deep a.rules (line a.flag [] a.line.now) h); name = refl }

pub returns : goal.returns
unfolding placeOf
returns c = let a = c.args in
    let e : c.inside-indent.result ≡ indentation a.line.now = c.inside-indent.ensures ∙ omega arith in
    let h : indentation a.line.now ≤ 3 = omega (arith, e, c.if-indent-ge-TAB_SIZE.false) in
    record { kind = c.before-2.ensures.kind ∙ ap (λ n. kindAt a.rules a.flag (drop n a.line.now)) e ∙ sym (not-deep a.rules (line a.flag [] a.line.now) h); name = renamed c.before-2.result _ _ (ap (λ n. tagName (drop n a.line.now)) e) c.before-2.ensures.names }
