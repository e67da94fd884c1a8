use Rattle.std.proofs.Common.{◌∙◌, ap, arith, rules}
use Rattle.lexical.proofs.Stores.{same}
use Rattle.rules.specs.Filter.{filtered}
use Rattle.rules.proofs.Outputs.{all-written}
use Rattle.walk.specs.Yields.{left}
use Rattle.walk.proofs.Walk.{allPieces, all-ordered}
use Rattle.walk.proofs.Replacing.{from-to, size-bound, size-is, showing-start, showing-on, shows-all}
use Rattle.tagfilter.proofs.Filtering.{filtering}
use Rattle.tagfilter.proofs.filter.show.Goals as goal

pub loop-piece-init : goal.loop-piece-init
loop-piece-init c = let b = c.args.bulletin in
    showing-start (allPieces b) (filtering b.text.now) c.args.out.now (all-ordered b) (ap left c.into_iter-piece-iterator.ensures.into_iter_gives ∙ c.pieces-piece-items.ensures)

pub overflow_add-size : goal.overflow_add-size
unfolding filtered
overflow_add-size c = let b = c.args.bulletin in
    let h = size-bound (allPieces b) (filtering b.text.now) c.loop-piece.invariant.walking c.in-Some.ensures.steps in
    let p = c.requires in let g = c.well_formed in search (rules, h, p, g)

pub write_piece-size-requires-clause-within : goal.write_piece-size-requires-clause-within
write_piece-size-requires-clause-within c = let b = c.args.bulletin in
    let h = from-to (allPieces b) (filtering b.text.now) c.loop-piece.invariant.walking c.in-Some.ensures.steps in (h.1, h.2)

pub write_piece-size-requires-clause-room : goal.write_piece-size-requires-clause-room
unfolding filtered
write_piece-size-requires-clause-room c = let b = c.args.bulletin in let at = c.loop-piece in
    omega (arith, size-bound (allPieces b) (filtering b.text.now) at.invariant.walking c.in-Some.ensures.steps, c.requires, at.invariant.same-length, same c.copy_part.ensures)

pub loop-piece-preserved : goal.loop-piece-preserved
unfolding filtered
loop-piece-preserved c = let b = c.args.bulletin in let w = c.write_piece-size.ensures in
    showing-on (allPieces b) (filtering b.text.now) c.args.out.now c.requires c.loop-piece.invariant c.in-Some.ensures.steps c.copy_part.ensures w.bytes-are _ w.behind

pub overflow_add-result : goal.overflow_add-result
unfolding filtered
overflow_add-result c = let b = c.args.bulletin in
    let h = size-is (allPieces b) (filtering b.text.now) c.loop-piece.invariant.walking c.in-None.ensures.steps.0 in
    let p = c.requires in let g = c.well_formed in search (rules, h, p, g)

pub returns : goal.returns
unfolding filtered
returns c = let b = c.args.bulletin in let at = c.loop-piece in let over = c.in-None.ensures.steps.0 in
    all-written _ _ c.args.out.now _ (size-is (allPieces b) (filtering b.text.now) at.invariant.walking over)
    (shows-all (allPieces b) (filtering b.text.now) c.args.out.now c.requires at.invariant over c.copy_part-2.ensures)
