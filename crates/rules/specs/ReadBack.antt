-- What is claimed of a scan's trace, SCOPE, Long bulletins: its fields hold every number, it reads back as its records, and so much room suffices for it.
use Rattle.std.specs.Prelude.{ℕ, ◌+◌, ◌*◌, ◌^◌, ◌≡◌, ◌<◌, ◌≤◌, List, length, get_or, All}
use Rattle.rules.specs.Reading.{crate}
use Rattle.rules.specs.Scan.{inlineScan, blockScan}
use Rattle.rules.specs.Trace.{wide, Record, eventRecord, lastRecord, refusedRecord, inlineRecords, blockRecords, inlineTrace, blockTrace, readTrace}

-- fields of w bytes hold line, column and index, or the stop; a refusal is no record
abbrev pub Fits : ℕ → Record → Type 0
Fits w (eventRecord kind line column index vs) = (line < 256 ^ w) × (column < 256 ^ w) × (index < 256 ^ w)
Fits w (lastRecord kind stop n) = stop < 256 ^ w
Fits w (refusedRecord n) = ⊥

-- a trace says these records, in this order, and no other: behind the last one there is none, which is 9
pub record ReadsBack (rs : List Record) (trace : List ℕ) : Type 0 where
  pub fit : All (Fits wide) rs
  pub read : (n : ℕ) → readTrace wide n trace ≡ get_or rs n (refusedRecord 9)

-- of every text, index and carry or flags; a scan that is refused has no record, and its trace no byte
pub record TracesReadBack : Type 0 where
  pub inline : (text : List ℕ) (i k : ℕ) → ReadsBack (inlineRecords text i (inlineScan crate text i k)) (inlineTrace text i (inlineScan crate text i k))
  pub block : (text flags : List ℕ) (i : ℕ) → ReadsBack (blockRecords text i (blockScan crate text flags i)) (blockTrace text i (blockScan crate text flags i))

-- room for two records for each byte, and a last one, suffices for any trace
pub record RoomSuffices : Type 0 where
  pub inline : (text : List ℕ) (i k : ℕ) → length (inlineTrace text i (inlineScan crate text i k)) ≤ 28 * length text + 6
  pub block : (text flags : List ℕ) (i : ℕ) → length (blockTrace text i (blockScan crate text flags i)) ≤ 28 * length text + 6
