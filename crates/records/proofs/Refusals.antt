-- Laws of the refusal of a kept trace: what is wrong with its records, how it ends, and on the way to narrow a field that is too large.
use Rattle.std.proofs.Common.{◌≡◌, true, false, List, ℕ, ne_eqb}
use Rattle.rules.specs.Refusal.{refusal, refusalNumber}
use Rattle.rules.specs.Trace.{wide}
use Rattle.rules.specs.declared.refusal.Refusal.{Refusal}
use Rattle.rules.proofs.Refusals.{refusal-positive}
use Rattle.records.specs.Records.{records, badRecord, endsOnce, recordsRefusal, traceRefusal}
use Rattle.records.specs.Conversion.{someOver, narrowRefusal}

-- ---- the refusal of a trace
module _ (w : ℕ) (s : List ℕ) where
  pub bad-refused : (r : Refusal) → refusalNumber r ≡ badRecord (records w s) → refusalNumber r ≡ traceRefusal w s
  unfolding traceRefusal recordsRefusal refusal
  bad-refused r e = rw (← e, ne_eqb (refusalNumber r) 0 (refusal-positive r))

  pub ends-taken : 0 ≡ badRecord (records w s) → endsOnce (records w s) ≡ true → 0 ≡ traceRefusal w s
  unfolding traceRefusal recordsRefusal refusal
  ends-taken e h = rw (← e, h)

  pub ends-refused : 0 ≡ badRecord (records w s) → endsOnce (records w s) ≡ false → 10 ≡ traceRefusal w s
  unfolding traceRefusal recordsRefusal refusal
  ends-refused e h = rw (← e, h)

-- ---- the refusal on the way to narrow
module _ (s : List ℕ) where
  pub narrow-refused : (r : Refusal) → refusalNumber r ≡ traceRefusal wide s → refusalNumber r ≡ narrowRefusal s
  unfolding narrowRefusal refusal
  narrow-refused r e = rw (← e, ne_eqb (refusalNumber r) 0 (refusal-positive r))

  pub narrow-over : 0 ≡ traceRefusal wide s → someOver (records wide s) ≡ true → 11 ≡ narrowRefusal s
  unfolding narrowRefusal refusal
  narrow-over e o = rw (← e, o)

  pub narrow-taken : 0 ≡ traceRefusal wide s → someOver (records wide s) ≡ false → 0 ≡ narrowRefusal s
  unfolding narrowRefusal refusal
  narrow-taken e o = rw (← e, o)
