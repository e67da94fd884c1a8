-- The invariant: the rest of the part, stored from here on, gives the whole.
use Rattle.std.proofs.Common.{◌≡◌, ◌+◌, length, drop}
use Rattle.lexical.specs.Buffer.{stored}
use Rattle.lexical.proofs.copy.copy.Given as goal

abbrev pub invariant-loop-i : goal.invariant-loop-i
invariant-loop-i l = (length l.out ≡ length l.initial.out) × (stored l.out (l.at + l.i) (drop l.i l.part) ≡ stored l.initial.out l.at l.part)
