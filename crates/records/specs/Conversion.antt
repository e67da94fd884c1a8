-- SCOPE, Old traces across and back.
use Rattle.std.specs.Prelude.{ℕ, ◌+◌, ◌*◌, ◌-◌, ◌≡◌, Bool, true, false, ◌||◌, not, List, [], ◌∷◌, eqb, ltb, length}
use Rattle.lexical.specs.Name.{all}
use Rattle.rules.specs.Refusal.{check, refusal, outputRefusal}
use Rattle.rules.specs.Withhold.{written}
use Rattle.rules.specs.Output.{Wrote, writing}
use Rattle.rules.specs.Trace.{wide, narrow, Record, eventRecord, lastRecord, refusedRecord, traceBytes, readTrace}
use Rattle.records.specs.Records.{records, traceRefusal}

-- the records written with fields of the other width
unfoldable pub widened : List ℕ → List ℕ
widened s = traceBytes wide (records narrow s)

unfoldable pub narrowed : List ℕ → List ℕ
narrowed s = traceBytes narrow (records wide s)

-- a field above 65,535
abbrev pub isOver : Record → Bool
isOver (eventRecord kind line column index vs) = ltb 65535 line || (ltb 65535 column || ltb 65535 index)
isOver (lastRecord kind stop n) = ltb 65535 stop
isOver (refusedRecord n) = false

unfoldable pub someOver : List Record → Bool
someOver [] = false
someOver (r ∷ rs) = isOver r || someOver rs

-- 8 and 9, then 10; on the way to narrow then 11. An entry that writes adds 7 behind them, `outputRefusal`.
abbrev pub widenRefusal : List ℕ → ℕ
widenRefusal s = traceRefusal narrow s

unfoldable pub narrowRefusal : List ℕ → ℕ
narrowRefusal s = refusal (check (not (eqb (traceRefusal wide s) 0)) (traceRefusal wide s) ∷ check (someOver (records wide s)) 11 ∷ [])

-- ---- the entries, with room for so many bytes
unfoldable pub widenTrace : List ℕ → ℕ → Wrote
widenTrace s room = writing (outputRefusal (widenRefusal s) room (widened s)) (widened s)

unfoldable pub narrowTrace : List ℕ → ℕ → Wrote
narrowTrace s room = writing (outputRefusal (narrowRefusal s) room (narrowed s)) (narrowed s)

-- the buffer afterwards
unfoldable pub widenBuffer : List ℕ → List ℕ → List ℕ
widenBuffer s old = written (outputRefusal (widenRefusal s) (length old) (widened s)) (widened s) old

unfoldable pub narrowBuffer : List ℕ → List ℕ → List ℕ
narrowBuffer s old = written (outputRefusal (narrowRefusal s) (length old) (narrowed s)) (narrowed s) old

-- ---- what is claimed
-- no byte is above 255
abbrev pub areBytes : List ℕ → Bool
areBytes s = all (λ b. ltb b 256) s

-- t is taken without a refusal, has the records of s in their order, and comes back as s
pub record Comes (refused : List ℕ → ℕ) (back : List ℕ → List ℕ) (from to : ℕ) (s t : List ℕ) : Type 0 where
  pub taken : refused t ≡ 0
  pub first-bytes : back t ≡ s
  -- kind, values and order
  pub kept : records to t ≡ records from s
  pub read : (n : ℕ) → readTrace to n t ≡ readTrace from n s

pub record Across : Type 0 where
  -- narrow to wide always fits, and coming back yields the first bytes exactly
  pub widen-first : (s : List ℕ) → areBytes s ≡ true → widenRefusal s ≡ 0 → Comes narrowRefusal narrowed narrow wide s (widened s)
  -- a wide trace that fits, taken narrow and wide again, yields itself
  pub narrow-first : (s : List ℕ) → areBytes s ≡ true → narrowRefusal s ≡ 0 → Comes (λ t. widenRefusal t) widened wide narrow s (narrowed s)

-- a trace that is taken has one record that is no event; each event has so many bytes, and the last record so many
pub record Sized : Type 0 where
  pub size : (w : ℕ) (s : List ℕ) → areBytes s ≡ true → traceRefusal w s ≡ 0 → length s ≡ (length (records w s) - 1) * (2 + 3 * w) + (2 + w)
