use Rattle.std.proofs.Common.{◌≡◌, ℕ, Bool, ◌-◌, length}
use Rattle.lexical.specs.Class.{Tests}
use Rattle.lexical.proofs.Run.{runEnd}
use Rattle.lexical.proofs.byte.class_end.Given as goal

abbrev pub invariant-loop-i : goal.invariant-loop-i
invariant-loop-i g l = (f : ℕ → Bool) → Tests (goal.F-post g l.is) f → runEnd f l.bytes l.i ≡ runEnd f l.bytes l.index

abbrev pub decreases-loop-i : goal.decreases-loop-i
decreases-loop-i g l = length l.bytes - l.i
