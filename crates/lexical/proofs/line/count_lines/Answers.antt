use Rattle.std.proofs.Common.{◌+◌, true, false, not, drop, sym, ◌∙◌, arith, length-drop}
use Rattle.lexical.specs.Byte.{isLineEndingByte}
use Rattle.lexical.specs.Line.{lines}
use Rattle.lexical.proofs.Run.{run-length}
use Rattle.lexical.proofs.Ending.{count-in, count-out, count-behind}
use Rattle.lexical.proofs.line.count_lines.Goals as goal

pub loop-i-init : goal.loop-i-init
loop-i-init c = let s = c.args.bytes.now in let e = c.line_end-i.ensures in let l = run-length (λ b. not (isLineEndingByte b)) s in let n = count-behind s 0 _ e in (omega arith, omega (arith, e, l), omega (arith, n))

pub loop-i-smaller-then-ends_line : goal.loop-i-smaller-then-ends_line
loop-i-smaller-then-ends_line c = let s = c.args.bytes.now in let i = c.loop-i.i in let e = c.line_end-i-in-loop-i.ensures in let l = run-length (λ b. not (isLineEndingByte b)) (drop (i + 1) s) in omega (arith, e, c.loop-i-test.true, l, length-drop (i + 1) s)

pub loop-i-preserved-then-ends_line : goal.loop-i-preserved-then-ends_line
loop-i-preserved-then-ends_line c = let s = c.args.bytes.now in let i = c.loop-i.i in let e = c.line_end-i-in-loop-i.ensures in
    let l = run-length (λ b. not (isLineEndingByte b)) (drop (i + 1) s) in
    let n = count-behind s (i + 1) _ e in
    let f = count-in s i true c.loop-i-test.true (sym c.ends_line.ensures ∙ c.if-ends_line.true) in
    let inv = c.loop-i.invariant in
    (omega (arith, e, inv.0), omega (arith, e, l, length-drop (i + 1) s, c.loop-i-test.true), omega (arith, n, f, inv.2))

pub loop-i-smaller : goal.loop-i-smaller
loop-i-smaller c = let s = c.args.bytes.now in let i = c.loop-i.i in let e = c.line_end-i-in-loop-i.ensures in let l = run-length (λ b. not (isLineEndingByte b)) (drop (i + 1) s) in omega (arith, e, c.loop-i-test.true, l, length-drop (i + 1) s)

pub loop-i-preserved : goal.loop-i-preserved
loop-i-preserved c = let s = c.args.bytes.now in let i = c.loop-i.i in let e = c.line_end-i-in-loop-i.ensures in
    let l = run-length (λ b. not (isLineEndingByte b)) (drop (i + 1) s) in
    let n = count-behind s (i + 1) _ e in
    let f = count-in s i false c.loop-i-test.true (sym c.ends_line.ensures ∙ c.if-ends_line.false) in
    let inv = c.loop-i.invariant in
    (omega (arith, e, inv.0), omega (arith, e, l, length-drop (i + 1) s, c.loop-i-test.true), omega (arith, n, f, inv.2))

pub returns : goal.returns
unfolding lines
returns c = let e = count-out c.args.bytes.now c.loop-i.i c.loop-i-test.false in omega (arith, e, c.loop-i.invariant.2)
