-- From piece to piece, by the law of the walk: the bytes before each piece are copied, what comes in its place is written, and then the rest is copied.
use Rattle.walk.specs.Yields.{left}
use Rattle.walk.proofs.Walk.{allPieces}
use Rattle.walk.proofs.Replacing.{Showing}
use Rattle.tagfilter.proofs.Filtering.{filtering}
use Rattle.tagfilter.proofs.filter.show.Given as goal

abbrev pub invariant-loop-piece : goal.invariant-loop-piece
invariant-loop-piece l = Showing (allPieces l.bulletin) (filtering l.bulletin.text.now) l.initial.out l.out (left l.piece-iterator) l.from l.size
