-- What the writer of a trace writes, and how many bytes records take.
use Rattle.std.specs.Prelude.{ℕ, ◌+◌, ◌*◌, Bool, List, [], ◌∷◌, ◌++◌}
use Rattle.rules.specs.Trace.{wide, Event, lastRecord, eventRecords, flowRecords, traceBytes}

-- the bytes of an event's record, and of a last one
abbrev pub eventLength : ℕ
eventLength = 2 + 3 * wide

abbrev pub lastLength : ℕ
lastLength = 2 + wide

-- the records of events, and of events with a last record behind them
abbrev pub eventBytes : List ℕ → List Event → List ℕ
eventBytes text es = traceBytes wide (eventRecords text es)

abbrev pub endedBytes : List ℕ → List Event → ℕ → ℕ → ℕ → List ℕ
endedBytes text es kind stop n = traceBytes wide (eventRecords text es ++ (lastRecord kind stop n ∷ []))

-- the trace of a block, by its kind, its stop and whether a closer was met
abbrev pub flowTrace : List ℕ → ℕ → ℕ → ℕ → Bool → List ℕ
flowTrace text start kind stop closed = traceBytes wide (flowRecords text start kind stop closed)
