use Rattle.std.proofs.Common.{◌∙◌, ap, arith, rules}
use Rattle.rules.specs.Withhold.{shown, count}
use Rattle.runs.proofs.Spans.{shown-most}
use Rattle.walk.specs.Yields.{left}
use Rattle.walk.proofs.Walk.{allPieces, all-ordered, counting-start, counting-on, number-bound, number-is}
use Rattle.walk.proofs.Replacing.{withholding, walking-start, walking-on, size-bound, size-is}
use Rattle.screen.proofs.find.measure.Goals as goal

pub loop-piece-init : goal.loop-piece-init
loop-piece-init c = let b = c.args.bulletin in
    let all = ap left c.into_iter-piece-iterator.ensures.into_iter_gives ∙ c.pieces-piece-items.ensures in
    (walking-start (allPieces b) (withholding b.text.now) (all-ordered b) all, counting-start b all)

pub overflow_add-size : goal.overflow_add-size
unfolding shown
overflow_add-size c = let b = c.args.bulletin in
    let h = size-bound (allPieces b) (withholding b.text.now) c.loop-piece.invariant.0 c.in-Some.ensures.steps in
    let s = shown-most b.rules b.text.now b.flags.now in search (rules, h, s)

pub overflow_add-pieces : goal.overflow_add-pieces
overflow_add-pieces c = let b = c.args.bulletin in
    let h = number-bound b c.loop-piece.invariant.1 c.in-Some.ensures.steps in search (rules, h)

pub loop-piece-preserved : goal.loop-piece-preserved
loop-piece-preserved c = let b = c.args.bulletin in let at = c.loop-piece in (
  walking-on (allPieces b) (withholding b.text.now) at.invariant.0 c.in-Some.ensures.steps _ (omega arith),
  counting-on b at.invariant.1 c.in-Some.ensures.steps,
)

pub overflow_add-result : goal.overflow_add-result
unfolding shown
overflow_add-result c = let b = c.args.bulletin in
    let h = size-is (allPieces b) (withholding b.text.now) c.loop-piece.invariant.0 c.in-None.ensures.steps.0 in
    let s = shown-most b.rules b.text.now b.flags.now in search (rules, h, s)

pub returns : goal.returns
unfolding shown count
returns c = let b = c.args.bulletin in let at = c.loop-piece in let over = c.in-None.ensures.steps.0 in
    record { length-is = size-is (allPieces b) (withholding b.text.now) at.invariant.0 over; pieces-are = number-is b at.invariant.1 over }
