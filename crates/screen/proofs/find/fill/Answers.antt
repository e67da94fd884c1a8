use Rattle.std.proofs.Common.{◌∙◌, ap, arith}
use Rattle.lexical.specs.Text.{limit}
use Rattle.walk.specs.Yields.{left}
use Rattle.walk.proofs.Walk.{number-bound}
use Rattle.screen.proofs.Finding.{filling-start, filling-on, span-fits, filled-all, piece-short}
use Rattle.screen.proofs.find.fill.Goals as goal

pub loop-piece-init : goal.loop-piece-init
loop-piece-init c = let a = c.args in
    filling-start a.bulletin a.list.now (ap left c.into_iter-piece-iterator.ensures.into_iter_gives ∙ c.pieces-piece-items.ensures)

pub overflow_mul-pieces : goal.overflow_mul-pieces
unfolding limit
overflow_mul-pieces c = let b = c.args.bulletin in
    let h = number-bound b c.loop-piece.invariant.counting c.in-Some.ensures.steps in let s = c.requires.short in omega (arith, h, s)

pub store_span-requires-clause-short : goal.store_span-requires-clause-short
store_span-requires-clause-short c = let a = c.args in
    piece-short a.bulletin a.list.now c.requires.room c.loop-piece.invariant c.in-Some.ensures.steps c.requires.short

pub store_span-requires-clause-room : goal.store_span-requires-clause-room
store_span-requires-clause-room c = let a = c.args in span-fits a.bulletin a.list.now c.requires.room c.loop-piece.invariant c.in-Some.ensures.steps

pub overflow_add-pieces : goal.overflow_add-pieces
unfolding limit
overflow_add-pieces c = let b = c.args.bulletin in
    let h = number-bound b c.loop-piece.invariant.counting c.in-Some.ensures.steps in let s = c.requires.short in omega (arith, h, s)

pub loop-piece-preserved : goal.loop-piece-preserved
loop-piece-preserved c = let a = c.args in
    filling-on a.bulletin a.list.now c.requires.room c.loop-piece.invariant c.in-Some.ensures.steps c.store_span.ensures

pub returns : goal.returns
returns c = let a = c.args in filled-all a.bulletin a.list.now c.requires.room c.loop-piece.invariant c.in-None.ensures.steps.0
