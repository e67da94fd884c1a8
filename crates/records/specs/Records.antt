-- A kept trace, SCOPE, Old traces across and back: whole records, the last and only the last of kind 13 or 14; and what is wrong with one that is none.
use Rattle.std.specs.Prelude.{ℕ, zero, suc, Bool, true, false, not, List, [], ◌∷◌, eqb, length, drop}
use Rattle.rules.specs.Refusal.{check, refusal}
use Rattle.rules.specs.Trace.{Record, eventRecord, lastRecord, refusedRecord, recordLength, recordAt}

-- the records of s one behind the other, with fields of w bytes; s has at most n bytes
unfoldable pub recordsFrom : ℕ → ℕ → List ℕ → List Record
recordsFrom w zero s = []
recordsFrom w (suc n) [] = []
recordsFrom w (suc n) (x ∷ s) = recordAt w (x ∷ s) ∷ recordsFrom w n (drop (recordLength w x) (x ∷ s))

unfoldable pub records : ℕ → List ℕ → List Record
records w s = recordsFrom w (length s) s

-- 8 and 9 by the first bad record, or 0
unfoldable pub badRecord : List Record → ℕ
badRecord [] = 0
badRecord (eventRecord k l c i v ∷ rs) = badRecord rs
badRecord (lastRecord k s n ∷ rs) = badRecord rs
badRecord (refusedRecord n ∷ rs) = n

-- exactly one final record, at the end
unfoldable pub endsOnce : List Record → Bool
endsOnce [] = false
endsOnce (eventRecord k l c i v ∷ rs) = endsOnce rs
endsOnce (lastRecord k s n ∷ []) = true
endsOnce (lastRecord k s n ∷ r ∷ rs) = false
endsOnce (refusedRecord n ∷ rs) = false

-- 8 and 9, then 10
unfoldable pub recordsRefusal : List Record → ℕ
recordsRefusal rs = refusal (check (not (eqb (badRecord rs) 0)) (badRecord rs) ∷ check (not (endsOnce rs)) 10 ∷ [])

unfoldable pub traceRefusal : ℕ → List ℕ → ℕ
traceRefusal w s = recordsRefusal (records w s)
