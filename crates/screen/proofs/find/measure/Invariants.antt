-- From piece to piece, by the law of the walk: the bytes before each piece are counted, and the piece itself.
use Rattle.walk.specs.Yields.{left}
use Rattle.walk.proofs.Walk.{allPieces, Counting}
use Rattle.walk.proofs.Replacing.{withholding, Walking}
use Rattle.screen.proofs.find.measure.Given as goal

abbrev pub invariant-loop-piece : goal.invariant-loop-piece
invariant-loop-piece l =
    Walking (allPieces l.bulletin) (withholding l.bulletin.text.now) (left l.piece-iterator) l.from l.size × Counting l.bulletin (left l.piece-iterator) l.pieces
