-- What the answers of this crate say, by the numbers and values of SCOPE for each case.
use Rattle.std.specs.Prelude.{ℕ, List, length}
use Rattle.rules.specs.Reading.{crate as ofCrate}
use Rattle.rules.specs.Refusal.{inlineRefusal, blockRefusal, outputRefusal}
use Rattle.rules.specs.Scan.{inlineScan, blockScan}
use Rattle.rules.specs.Withhold.{written}
use Rattle.rules.specs.Output.{Wrote, writing}
use Rattle.rules.specs.Trace.{inlineTrace, blockTrace}

-- of an inline scan with all eight changes: the scan's refusals in order, then 7 where the buffer, whose length is room, is shorter than the trace
unfoldable pub inlineTraceRefusal : List ℕ → ℕ → ℕ → ℕ → ℕ
inlineTraceRefusal text i k room = outputRefusal (inlineRefusal text i k) room (inlineTrace text i (inlineScan ofCrate text i k))

unfoldable pub inlineTraced : List ℕ → ℕ → ℕ → ℕ → Wrote
inlineTraced text i k room = writing (inlineTraceRefusal text i k room) (inlineTrace text i (inlineScan ofCrate text i k))

-- the buffer afterwards: the trace and the old bytes past it, or on a refusal the old bytes
unfoldable pub inlineBuffer : List ℕ → ℕ → ℕ → List ℕ → List ℕ
inlineBuffer text i k old = written (inlineTraceRefusal text i k (length old)) (inlineTrace text i (inlineScan ofCrate text i k)) old

-- of a block scan with all eight changes
unfoldable pub blockTraceRefusal : List ℕ → List ℕ → ℕ → ℕ → ℕ
blockTraceRefusal text flags i room = outputRefusal (blockRefusal text flags i) room (blockTrace text i (blockScan ofCrate text flags i))

unfoldable pub blockTraced : List ℕ → List ℕ → ℕ → ℕ → Wrote
blockTraced text flags i room = writing (blockTraceRefusal text flags i room) (blockTrace text i (blockScan ofCrate text flags i))

unfoldable pub blockBuffer : List ℕ → List ℕ → ℕ → List ℕ → List ℕ
blockBuffer text flags i old = written (blockTraceRefusal text flags i (length old)) (blockTrace text i (blockScan ofCrate text flags i)) old
