use Rattle.std.proofs.Common.{◌≡◌, suc, ◌+◌, ◌-◌, ◌≤◌, length, drop}
use Rattle.lexical.specs.Line.{lineEndings}
use Rattle.lexical.proofs.line.count_lines.Given as goal

abbrev pub invariant-loop-i : goal.invariant-loop-i
invariant-loop-i l = (l.count ≤ l.i + 1) × (l.i ≤ length l.bytes) × (l.count + lineEndings (drop l.i l.bytes) ≡ suc (lineEndings l.bytes))

abbrev pub decreases-loop-i : goal.decreases-loop-i
decreases-loop-i l = length l.bytes - l.i
