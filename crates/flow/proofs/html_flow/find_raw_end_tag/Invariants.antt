use Rattle.std.proofs.Common.{◌≡◌, ◌-◌, length}
use Rattle.rules.specs.Search.{before}
use Rattle.rules.specs.Block.{isRawEnd}
use Rattle.rules.proofs.Past.{firstFrom}
use Rattle.flow.proofs.html_flow.find_raw_end_tag.Given as goal

abbrev pub invariant-loop-i : goal.invariant-loop-i
invariant-loop-i l = firstFrom isRawEnd l.line l.i ≡ before isRawEnd l.line

abbrev pub decreases-loop-i : goal.decreases-loop-i
decreases-loop-i l = length l.line - l.i
