use Rattle.std.proofs.Common.{◌+◌, ◌-◌, length, drop}
use Rattle.lexical.specs.Line.{lineLength}
use Rattle.walk.proofs.BlockLines.{Passing}
use Rattle.walk.proofs.bulletin.Bulletin.block_end.Given as goal

abbrev pub invariant-loop-end : goal.invariant-loop-end
invariant-loop-end l = Passing l.self.text.now l.self.flags.now l.stop (l.index + lineLength (drop l.index l.self.text.now)) l.initial.number l.end l.number

abbrev pub decreases-loop-end : goal.decreases-loop-end
decreases-loop-end l = length l.self.text.now - l.end
