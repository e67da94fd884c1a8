use Rattle.std.proofs.Common.{◌≡◌, ◌-◌, length}
use Rattle.walk.specs.Remaining.{fromLine}
use Rattle.walk.proofs.bulletin.Bulletin.line_piece.Given as goal

abbrev pub invariant-loop-at : goal.invariant-loop-at
invariant-loop-at l = fromLine l.self.rules l.self.text.now l.self.flags.now l.initial.at.next l.initial.at.line ≡ fromLine l.self.rules l.self.text.now l.self.flags.now l.at.next l.at.line

abbrev pub decreases-loop-at : goal.decreases-loop-at
decreases-loop-at l = length l.self.text.now - l.at.next
