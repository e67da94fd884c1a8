use Rattle.std.proofs.Common.{◌+◌, ◌≡◌, sym, ◌∙◌, ap, arith, length}
use Rattle.rules.proofs.Cut.{to-within}
use Rattle.trace.specs.Walk.{lineEvents}
use Rattle.trace.proofs.Walks.{line-count, rest-none}
use Rattle.trace.proofs.Turns.{further, met, count-on}
use Rattle.trace.proofs.piece.count_lines.Goals as goal

pub loop-form-smaller : goal.loop-form-smaller
loop-form-smaller c = let s = c.args.front.now in
    let i = c.loop-form.i in
    let h = met _ _ c.line_ending.ensures c.loop-form-test.true in
    let t = rw c.next_line-from.ensures at c.line_end-i.ensures in
    omega (arith, t, further s i h, to-within s i c.loop-form.invariant.0)

pub loop-form-preserved : goal.loop-form-preserved
loop-form-preserved c = let a = c.args in
    let s = a.front.now in
    let i = c.loop-form.i in
    let h = met _ _ c.line_ending.ensures c.loop-form-test.true in
    let t = rw c.next_line-from.ensures at c.line_end-i.ensures in
    let d = rw c.next_line-from.ensures at c.count_data.ensures.counted in
    let n : 2 + c.count_data.result ≡ length (lineEvents a.form s i) = omega (arith, d, line-count s i a.form) in (
      omega (arith, t, to-within s i c.loop-form.invariant.0),
      omega (arith, t, further s i h),
      count-on s a.form i _ c.loop-form.count _ _ h n t c.loop-form.invariant.2,
    )

pub returns-clause-counted : goal.returns-clause-counted
returns-clause-counted c = omega (arith, c.loop-form.invariant.2, ap length (rest-none c.args.front.now c.loop-form.i c.args.form (sym c.line_ending.ensures ∙ omega (arith, c.loop-form-test.false))))
