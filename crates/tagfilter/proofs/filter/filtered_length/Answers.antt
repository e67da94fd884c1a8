use Rattle.std.proofs.Common.{◌∙◌, ap, ◌+◌, ◌-◌, arith}
use Rattle.lexical.specs.Text.{limit}
use Rattle.rules.specs.Filter.{filtered}
use Rattle.walk.specs.Yields.{left}
use Rattle.walk.proofs.Walk.{allPieces, all-ordered}
use Rattle.walk.proofs.Replacing.{walking-start, walking-on, from-to, size-bound, size-is}
use Rattle.tagfilter.proofs.Bound.{filtered-bound}
use Rattle.tagfilter.proofs.Filtering.{filtering}
use Rattle.tagfilter.proofs.filter.filtered_length.Goals as goal

pub loop-piece-init : goal.loop-piece-init
loop-piece-init c = let b = c.args.bulletin in
    walking-start (allPieces b) (filtering b.text.now) (all-ordered b) (ap left c.into_iter-piece-iterator.ensures.into_iter_gives ∙ c.pieces-piece-items.ensures)

pub overflow_add-size : goal.overflow_add-size
unfolding limit filtered
overflow_add-size c = let b = c.args.bulletin in
    omega (arith, size-bound (allPieces b) (filtering b.text.now) c.loop-piece.invariant c.in-Some.ensures.steps, filtered-bound b.rules b.text.now b.flags.now, c.requires)

pub piece_length-size-requires-clause-within : goal.piece_length-size-requires-clause-within
piece_length-size-requires-clause-within c = let b = c.args.bulletin in
    let h = from-to (allPieces b) (filtering b.text.now) c.loop-piece.invariant c.in-Some.ensures.steps in (h.1, h.2)

pub overflow_add-size-in-loop-piece : goal.overflow_add-size-in-loop-piece
unfolding limit filtered
overflow_add-size-in-loop-piece c = let b = c.args.bulletin in
    omega (arith, size-bound (allPieces b) (filtering b.text.now) c.loop-piece.invariant c.in-Some.ensures.steps, filtered-bound b.rules b.text.now b.flags.now, c.piece_length-size.ensures, c.requires)

pub loop-piece-preserved : goal.loop-piece-preserved
loop-piece-preserved c = let b = c.args.bulletin in let at = c.loop-piece in
    walking-on (allPieces b) (filtering b.text.now) at.invariant c.in-Some.ensures.steps _ (ap (λ n. at.size + (c.in-Some.piece.start - at.from) + n) c.piece_length-size.ensures)

pub overflow_add-result : goal.overflow_add-result
unfolding limit filtered
overflow_add-result c = let b = c.args.bulletin in
    omega (arith, size-is (allPieces b) (filtering b.text.now) c.loop-piece.invariant c.in-None.ensures.steps.0, filtered-bound b.rules b.text.now b.flags.now, c.requires)

pub returns : goal.returns
unfolding filtered
returns c = let b = c.args.bulletin in size-is (allPieces b) (filtering b.text.now) c.loop-piece.invariant c.in-None.ensures.steps.0
