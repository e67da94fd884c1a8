-- Laws of an entry that traces, by the answer of its scan: the refusal of the scan, or what is made of its trace.
use Rattle.std.proofs.Common.{◌≡◌, List, ℕ, length}
use Rattle.rules.specs.Reading.{crate as ofCrate}
use Rattle.rules.specs.Scan.{InlineAnswer, foundInline, noInline, refusedInline, inlineScan, Found, BlockAnswer, foundBlock, noBlock, refusedBlock, blockScan}
use Rattle.rules.specs.Refusal.{refusalNumber, inlineRefusal, blockRefusal, outputRefusal}
use Rattle.rules.specs.Trace.{wide, lastRecord, inlineRecords, blockRecords, recordBytes, inlineTrace, blockTrace}
use Rattle.rules.specs.Output.{outputOf, Writes}
use Rattle.rules.specs.declared.refusal.Refusal.{Refusal}
use Rattle.std.specs.Prelude.{Result, Err}
use Rattle.rules.proofs.Outputs.{read-refused}
use Rattle.trace.specs.Answer.{inlineTraceRefusal, inlineTraced, inlineBuffer, blockTraceRefusal, blockTraced, blockBuffer}
use Rattle.records.proofs.Records.{one-record}
use Rattle.trace.specs.Walk.{pieceTrace}
use Rattle.trace.proofs.Pieces.{textOf, flowOf, text-trace, flow-trace}
use Rattle.trace.proofs.Stops.{found-lies, found-passes, none-passes, refused-number}
use Rattle.trace.proofs.BlockStops.{block-found-lies, block-found-passes, block-none-passes, block-refused-number}

-- ---- by the answer of the inline scan
module _ (text : List ℕ) (i k : ℕ) (old : List ℕ) where
  abbrev Is : Result ℕ Refusal → List ℕ → Type 0
  Is r new = (outputOf r ≡ inlineTraced text i k (length old)) × (new ≡ inlineBuffer text i k old)

  inline-by : {r : Result ℕ Refusal} {new : List ℕ} (n : ℕ) (a : InlineAnswer) → inlineScan ofCrate text i k ≡ a → inlineRefusal text i k ≡ n
      → Writes (outputRefusal n (length old) (inlineTrace text i a)) (inlineTrace text i a) old r new → Is r new
  unfolding inlineTraceRefusal inlineTraced inlineBuffer
  inline-by n a e f t = rw (e, f) (t.answer, t.buffer)

  pub found-by : {r : Result ℕ Refusal} {new : List ℕ} (stop c : ℕ) → inlineScan ofCrate text i k ≡ foundInline stop c
      → Writes (outputRefusal 0 (length old) (pieceTrace text (textOf i stop c))) (pieceTrace text (textOf i stop c)) old r new → Is r new
  found-by stop c e t =
      inline-by 0 (foundInline stop c) e (found-passes text i k stop c e) (rw (text-trace text i stop c (found-lies text i k stop c e).from) t)

  pub none-by : {r : Result ℕ Refusal} {new : List ℕ} (c : ℕ) → inlineScan ofCrate text i k ≡ noInline c
      → Writes (outputRefusal 0 (length old) (recordBytes wide (lastRecord 13 i c))) (recordBytes wide (lastRecord 13 i c)) old r new → Is r new
  unfolding inlineRecords
  none-by c e t = inline-by 0 (noInline c) e (none-passes text i k c e) (rw (one-record wide (lastRecord 13 i c)) t)

  pub refused-by : (r : Refusal) (c : ℕ) → inlineScan ofCrate text i k ≡ refusedInline (refusalNumber r) c → Is (Err r) old
  refused-by r c e =
      let a = refusedInline (refusalNumber r) c in
      inline-by (refusalNumber r) a e (refused-number text i k (refusalNumber r) c e) (read-refused _ (inlineTrace text i a) old r)

-- ---- by the answer of the block scan
module _ (text flags : List ℕ) (i : ℕ) (old : List ℕ) where
  abbrev IsBlock : Result ℕ Refusal → List ℕ → Type 0
  IsBlock r new = (outputOf r ≡ blockTraced text flags i (length old)) × (new ≡ blockBuffer text flags i old)

  block-by : {r : Result ℕ Refusal} {new : List ℕ} (n : ℕ) (a : BlockAnswer) → blockScan ofCrate text flags i ≡ a → blockRefusal text flags i ≡ n
      → Writes (outputRefusal n (length old) (blockTrace text i a)) (blockTrace text i a) old r new → IsBlock r new
  unfolding blockTraceRefusal blockTraced blockBuffer
  block-by n a e f t = rw (e, f) (t.answer, t.buffer)

  pub block-found-by : {r : Result ℕ Refusal} {new : List ℕ} (b : Found) → blockScan ofCrate text flags i ≡ foundBlock b
      → Writes (outputRefusal 0 (length old) (pieceTrace text (flowOf text i b))) (pieceTrace text (flowOf text i b)) old r new → IsBlock r new
  unfolding blockRecords
  block-found-by b e t =
      block-by 0 (foundBlock b) e (block-found-passes text flags i b e) (rw (flow-trace text i b (block-found-lies text flags i b e).from) t)

  pub block-none-by : {r : Result ℕ Refusal} {new : List ℕ} → blockScan ofCrate text flags i ≡ noBlock
      → Writes (outputRefusal 0 (length old) (recordBytes wide (lastRecord 14 i 0))) (recordBytes wide (lastRecord 14 i 0)) old r new → IsBlock r new
  unfolding blockRecords
  block-none-by e t = block-by 0 noBlock e (block-none-passes text flags i e) (rw (one-record wide (lastRecord 14 i 0)) t)

  pub block-refused-by : (r : Refusal) → blockScan ofCrate text flags i ≡ refusedBlock (refusalNumber r) → IsBlock (Err r) old
  block-refused-by r e =
      let a = refusedBlock (refusalNumber r) in
      block-by (refusalNumber r) a e (block-refused-number text flags i (refusalNumber r) e) (read-refused _ (blockTrace text i a) old r)
