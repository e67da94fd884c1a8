use Rattle.std.proofs.Common.{arith, rules}
use Rattle.rules.specs.Spans.{asPieces}
use Rattle.runs.proofs.Spans.{beside-most}
use Rattle.walk.proofs.Replacing.{withholding, walking-on, size-bound, size-is}
use Rattle.spans.proofs.Lists.{behind}
use Rattle.spans.proofs.Showing.{takes, no-piece, all-valid, going-start}
use Rattle.spans.proofs.show.beside_length.Goals as goal

pub loop-span-init : goal.loop-span-init
loop-span-init c = let a = c.args in (all-valid a.bulletin.now a.spans.now c.requires, going-start a.bulletin.now a.spans.now c.requires)

pub overflow_add-size : goal.overflow_add-size
overflow_add-size c = let a = c.args in let s = c.in-Some.span in
    let h = size-bound (asPieces a.spans.now) (withholding a.bulletin.now) c.loop-span.invariant.1 (takes s.start s.stop s.sort c.in-Some.ensures) in
    let b = beside-most a.bulletin.now a.spans.now c.requires in search (rules, h, b)

pub loop-span-preserved : goal.loop-span-preserved
loop-span-preserved c = let a = c.args in let at = c.loop-span in let s = c.in-Some.span in (
  behind c.in-Some.ensures at.invariant.0,
  walking-on (asPieces a.spans.now) (withholding a.bulletin.now) at.invariant.1 (takes s.start s.stop s.sort c.in-Some.ensures) _ (omega arith),
)

pub overflow_add-result : goal.overflow_add-result
overflow_add-result c = let a = c.args in let at = c.loop-span in
    let h = size-is (asPieces a.spans.now) (withholding a.bulletin.now) at.invariant.1 (no-piece c.in_default.ensures at.invariant.0) in
    let b = beside-most a.bulletin.now a.spans.now c.requires in search (rules, h, b)

pub returns : goal.returns
returns c = let a = c.args in let at = c.loop-span in
    size-is (asPieces a.spans.now) (withholding a.bulletin.now) at.invariant.1 (no-piece c.in_default.ensures at.invariant.0)
