use Rattle.std.proofs.Common.{◌-◌, length, drop}
use Rattle.walk.specs.Closer.{Known}
use Rattle.walk.proofs.InlineSteps.{AtOpening}
use Rattle.walk.proofs.paragraph.next_inline.Given as goal

abbrev pub invariant-loop-start : goal.invariant-loop-start
invariant-loop-start l = Known l.initial.known (drop l.index l.text) → AtOpening l.rules l.text l.index l.start l.known

abbrev pub decreases-loop-start : goal.decreases-loop-start
decreases-loop-start l = length l.text - l.start
