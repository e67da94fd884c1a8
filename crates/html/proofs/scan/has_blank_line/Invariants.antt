use Rattle.std.proofs.Common.{◌≡◌, ◌-◌, length, drop}
use Rattle.rules.specs.Search.{somewhere}
use Rattle.rules.specs.Refusal.{blankFollows}
use Rattle.html.proofs.scan.has_blank_line.Given as goal

abbrev pub invariant-loop-i : goal.invariant-loop-i
invariant-loop-i l = somewhere blankFollows (drop l.i l.text) ≡ somewhere blankFollows l.text

abbrev pub decreases-loop-i : goal.decreases-loop-i
decreases-loop-i l = length l.text - l.i
