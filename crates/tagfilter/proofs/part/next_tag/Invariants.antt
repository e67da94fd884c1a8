-- Up to each `<` of a line, and over a `<` that begins no tag, all bytes stay; so they do up to the first tag, or the stop.
use Rattle.std.proofs.Common.{◌-◌}
use Rattle.tagfilter.specs.Part.{Passed}
use Rattle.tagfilter.proofs.part.next_tag.Given as goal

abbrev pub invariant-loop-i : goal.invariant-loop-i
invariant-loop-i l = Passed l.bulletin l.stop l.index l.i

abbrev pub decreases-loop-i : goal.decreases-loop-i
decreases-loop-i l = l.stop - l.i
