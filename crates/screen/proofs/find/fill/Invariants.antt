-- The spans of the pieces passed are stored, and there is room for the others.
use Rattle.walk.specs.Yields.{left}
use Rattle.screen.proofs.Finding.{Filling}
use Rattle.screen.proofs.find.fill.Given as goal

abbrev pub invariant-loop-piece : goal.invariant-loop-piece
invariant-loop-piece l = Filling l.bulletin l.initial.list l.list (left l.piece-iterator) l.pieces
