-- From tag to tag: what stands before it is copied, and `&lt;` comes in its place; what is done and what is to come are together the whole part. Behind the last tag the
-- rest is copied.
use Rattle.std.proofs.Common.{◌-◌, ◌≤◌}
use Rattle.tagfilter.specs.Part.{replacedBetween}
use Rattle.tagfilter.proofs.Parts.{UpTo}
use Rattle.tagfilter.proofs.part.write_part.Given as goal

abbrev pub invariant-loop-tag : goal.invariant-loop-tag
invariant-loop-tag l =
    (l.from ≤ l.stop) × UpTo l.initial.out l.at (replacedBetween l.bulletin l.start l.stop) l.out l.size (replacedBetween l.bulletin l.from l.stop)

abbrev pub decreases-loop-tag : goal.decreases-loop-tag
decreases-loop-tag l = l.stop - l.from
