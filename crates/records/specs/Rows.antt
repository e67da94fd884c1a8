-- Kept traces and what becomes of them, SCOPE, Old traces across and back, four tables proved by one computed fact: the trace of `<b>` both ways, as it was and as it is now; the refusals in
-- their order; how long traces are; and that what is refused would not come back.
use Rattle.std.specs.Prelude.{ℕ, ◌+◌, ◌*◌, ◌-◌, ◌≡◌, refl, Bool, true, not, List, [], ◌∷◌, ◌++◌, eqb, length}
use Rattle.lexical.specs.Name.{all, sameBytes}
use Rattle.rules.specs.Computing.{computing}
use Rattle.rules.specs.Trace.{wide, narrow}
use Rattle.rules.specs.Output.{wrote, refusedWrite}
use Rattle.rules.specs.Corners.{sameWrote}
use Rattle.records.specs.Records.{recordsFrom, records, badRecord, endsOnce, recordsRefusal, traceRefusal}
use Rattle.records.specs.Conversion.{widened, narrowed, someOver, narrowRefusal, widenTrace, narrowTrace, widenBuffer, narrowBuffer}

-- the trace of `<b>`, narrow and wide
abbrev pub narrowB : List ℕ
narrowB = 7 ∷ 1 ∷ 0 ∷ 1 ∷ 0 ∷ 0 ∷ 0 ∷ 0 ∷ 9 ∷ 1 ∷ 0 ∷ 1 ∷ 0 ∷ 0 ∷ 0 ∷ 0 ∷ 10 ∷ 1 ∷ 0 ∷ 4 ∷ 0 ∷ 3 ∷ 0 ∷ 0 ∷ 8 ∷ 1 ∷ 0 ∷ 4 ∷ 0 ∷ 3 ∷ 0 ∷ 0 ∷ 13 ∷ 3 ∷ 0 ∷ 0 ∷ []

abbrev pub wideB : List ℕ
wideB =
    7 ∷ 1 ∷ 0 ∷ 0 ∷ 0 ∷ 1 ∷ 0 ∷ 0 ∷ 0 ∷ 0 ∷ 0 ∷ 0 ∷ 0 ∷ 0
    ∷ 9 ∷ 1 ∷ 0 ∷ 0 ∷ 0 ∷ 1 ∷ 0 ∷ 0 ∷ 0 ∷ 0 ∷ 0 ∷ 0 ∷ 0 ∷ 0
    ∷ 10 ∷ 1 ∷ 0 ∷ 0 ∷ 0 ∷ 4 ∷ 0 ∷ 0 ∷ 0 ∷ 3 ∷ 0 ∷ 0 ∷ 0 ∷ 0
    ∷ 8 ∷ 1 ∷ 0 ∷ 0 ∷ 0 ∷ 4 ∷ 0 ∷ 0 ∷ 0 ∷ 3 ∷ 0 ∷ 0 ∷ 0 ∷ 0
    ∷ 13 ∷ 3 ∷ 0 ∷ 0 ∷ 0 ∷ 0 ∷ []

-- one event, and last records, narrow
abbrev pub enter : List ℕ
enter = 7 ∷ 1 ∷ 0 ∷ 1 ∷ 0 ∷ 0 ∷ 0 ∷ 0 ∷ []

abbrev pub last13 : List ℕ
last13 = 13 ∷ 3 ∷ 0 ∷ 0 ∷ []

abbrev pub last14 : List ℕ
last14 = 14 ∷ 3 ∷ 0 ∷ 7 ∷ []

-- last records with stops of 65,535 and 65,536, wide
abbrev pub stop65535 : List ℕ
stop65535 = 13 ∷ 255 ∷ 255 ∷ 0 ∷ 0 ∷ 5 ∷ []

abbrev pub stop65536 : List ℕ
stop65536 = 13 ∷ 0 ∷ 0 ∷ 1 ∷ 0 ∷ 5 ∷ []

-- ---- the entries, and the buffer afterwards
unfoldable pub bothWays : List Bool
bothWays =
    sameWrote (widenTrace narrowB 62) (wrote 62)
    ∷ sameBytes (widenBuffer narrowB (wideB ++ (9 ∷ []))) (wideB ++ (9 ∷ []))
    ∷ sameBytes (widened narrowB) wideB
    ∷ sameWrote (narrowTrace wideB 36) (wrote 36)
    ∷ sameBytes (narrowed wideB) narrowB
    ∷ []

unfoldable pub refusals : List Bool
refusals =
    -- 10: the empty trace, no final record, two of them, one with a record behind it
    eqb (traceRefusal narrow []) 10
    ∷ eqb (traceRefusal narrow enter) 10
    ∷ eqb (traceRefusal narrow (last13 ++ last14)) 10
    ∷ eqb (traceRefusal narrow (last13 ++ enter)) 10
    ∷ eqb (traceRefusal narrow last13) 0
    ∷ eqb (traceRefusal narrow (enter ++ last14)) 0
    -- 8 and 9 come before it, the first bad record decides, also behind a final one
    ∷ eqb (traceRefusal narrow (last13 ++ (15 ∷ []))) 8
    ∷ eqb (traceRefusal narrow (last13 ++ (13 ∷ 3 ∷ []))) 9
    ∷ eqb (traceRefusal narrow (7 ∷ 1 ∷ 0 ∷ [])) 9
    ∷ eqb (traceRefusal narrow (0 ∷ last13)) 8
    -- 11: 65,535 fits, 65,536 does not; 10 comes before it
    ∷ eqb (narrowRefusal stop65535) 0
    ∷ eqb (narrowRefusal stop65536) 11
    ∷ eqb (narrowRefusal (stop65536 ++ stop65536)) 10
    ∷ eqb (narrowRefusal (7 ∷ 0 ∷ 0 ∷ 1 ∷ 0 ∷ 1 ∷ 0 ∷ 0 ∷ 0 ∷ 0 ∷ 0 ∷ 0 ∷ 0 ∷ 0 ∷ stop65535)) 11
    ∷ eqb (narrowRefusal (7 ∷ 1 ∷ 0 ∷ 0 ∷ 0 ∷ 0 ∷ 0 ∷ 1 ∷ 0 ∷ 0 ∷ 0 ∷ 0 ∷ 0 ∷ 0 ∷ stop65535)) 11
    ∷ eqb (narrowRefusal (7 ∷ 1 ∷ 0 ∷ 0 ∷ 0 ∷ 1 ∷ 0 ∷ 0 ∷ 0 ∷ 0 ∷ 0 ∷ 1 ∷ 0 ∷ 0 ∷ stop65535)) 11
    -- 7 comes last, and the buffer stays
    ∷ sameWrote (widenTrace narrowB 61) (refusedWrite 7)
    ∷ sameWrote (narrowTrace wideB 35) (refusedWrite 7)
    ∷ sameWrote (narrowTrace stop65536 0) (refusedWrite 11)
    ∷ sameBytes (narrowBuffer stop65536 last14) last14
    ∷ []

-- of the lengths: four events and a last record
unfoldable pub sizes : List Bool
sizes = eqb (length (records wide wideB)) 5 ∷ eqb (length wideB) ((5 - 1) * (2 + 3 * wide) + (2 + wide)) ∷ []

-- what is refused by 11 and 9 would not come back, nor would what is no byte
unfoldable pub needed : List Bool
needed =
    not (sameBytes (widened (narrowed stop65536)) stop65536)
    ∷ not (sameBytes (narrowed (widened (13 ∷ 3 ∷ []))) (13 ∷ 3 ∷ []))
    ∷ not (sameBytes (narrowed (widened (13 ∷ 256 ∷ 0 ∷ 5 ∷ []))) (13 ∷ 256 ∷ 0 ∷ 5 ∷ []))
    ∷ []

pub rows-hold : all (λ b. b) (bothWays ++ (refusals ++ (sizes ++ needed))) ≡ true
unfolding bothWays refusals sizes needed computing recordsFrom records badRecord endsOnce recordsRefusal traceRefusal widened narrowed someOver narrowRefusal widenTrace narrowTrace widenBuffer narrowBuffer
rows-hold = refl
