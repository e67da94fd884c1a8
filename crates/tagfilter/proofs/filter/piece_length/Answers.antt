use Rattle.std.proofs.Common.{◌-◌, arith, drop}
use Rattle.lexical.specs.Text.{limit}
use Rattle.tagfilter.proofs.Parts.{part-bound}
use Rattle.tagfilter.proofs.Piece.{end-within}
use Rattle.tagfilter.proofs.filter.piece_length.Goals as goal

pub overflow_add-result : goal.overflow_add-result
unfolding limit
overflow_add-result c = let a = c.args in let pre = c.requires in
    omega (arith, end-within a.bulletin.now a.piece _ c.counted_end-end.ensures pre.within.0 pre.within.1, c.part_length.ensures, part-bound (c.counted_end-end.result - a.piece.start) (drop a.piece.start a.bulletin.now), pre.within.1, pre.short)
