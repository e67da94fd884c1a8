-- From piece to piece, by the law of the walk: the bytes before each piece and what comes in its place are counted, and then the rest. The sum is within eight
-- fifths of the bulletin, so that none wraps.
use Rattle.walk.specs.Yields.{left}
use Rattle.walk.proofs.Walk.{allPieces}
use Rattle.walk.proofs.Replacing.{Walking}
use Rattle.tagfilter.proofs.Filtering.{filtering}
use Rattle.tagfilter.proofs.filter.filtered_length.Given as goal

abbrev pub invariant-loop-piece : goal.invariant-loop-piece
invariant-loop-piece l = Walking (allPieces l.bulletin) (filtering l.bulletin.text.now) (left l.piece-iterator) l.from l.size
