-- What comes in place of the piece is a part with its tags replaced, and the rest as it is.
use Rattle.tagfilter.proofs.Piece.{piece-written}
use Rattle.tagfilter.proofs.filter.write_piece.Goals as goal

pub returns : goal.returns
returns c = let a = c.args in let pre = c.requires in
    piece-written a.bulletin.now a.piece _ c.counted_end-end.ensures pre.within.0 pre.within.1 a.out.now a.at pre.room _ _ c.write_part-behind.ensures _ c.copy_part.ensures
