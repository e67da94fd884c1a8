-- Three bytes more for each tag, beside the bytes that are there.
use Rattle.std.proofs.Common.{◌-◌}
use Rattle.tagfilter.proofs.Parts.{Counted}
use Rattle.tagfilter.proofs.part.part_length.Given as goal

abbrev pub invariant-loop-tag : goal.invariant-loop-tag
invariant-loop-tag l = Counted l.bulletin l.stop l.start l.from l.size

abbrev pub decreases-loop-tag : goal.decreases-loop-tag
decreases-loop-tag l = l.stop - l.from
