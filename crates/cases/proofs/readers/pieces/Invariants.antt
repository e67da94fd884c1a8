-- Each turn moves on in the text.
use Rattle.std.proofs.Common.{◌-◌, length}
use Rattle.cases.proofs.readers.pieces.Given as goal

abbrev pub decreases-loop-index : goal.decreases-loop-index
decreases-loop-index g l = length l.case.text.items - l.index
