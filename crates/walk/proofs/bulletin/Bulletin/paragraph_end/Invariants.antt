use Rattle.std.proofs.Common.{◌+◌, ◌-◌, length, drop}
use Rattle.lexical.specs.Line.{lineLength}
use Rattle.walk.proofs.Paragraphs.{Along}
use Rattle.walk.proofs.bulletin.Bulletin.paragraph_end.Given as goal

abbrev pub invariant-loop-stop : goal.invariant-loop-stop
invariant-loop-stop l = Along l.self.rules l.self.text.now l.self.flags.now (l.index + lineLength (drop l.index l.self.text.now)) l.initial.number l.stop l.number

abbrev pub decreases-loop-stop : goal.decreases-loop-stop
decreases-loop-stop l = length l.self.text.now - l.stop
