-- A scan's trace reads back as its records: a scan that is not refused is of a text within the limit, its events stand within the text, and there line, column
-- and index fit fields of four bytes.
use Rattle.std.proofs.Common.{◌≡◌, refl, List, [], ◌∷◌, ◌++◌, ℕ, ◌≤◌, arith, length}
use Rattle.std.specs.Prelude.{All}
use Rattle.std.proofs.lemmas.List.Elements.{All-nil, All-cons, All-append, All-map, All-weaker}
use Rattle.lexical.specs.Text.{limit}
use Rattle.lexical.specs.Point.{pointAt}
use Rattle.lexical.proofs.Bounds.{point-fits}
use Rattle.rules.specs.Reading.{crate as ofCrate}
use Rattle.rules.specs.Scan.{InlineAnswer, foundInline, noInline, refusedInline, inlineScan, BlockAnswer, foundBlock, noBlock, refusedBlock, blockScan}
use Rattle.rules.specs.Trace.{wide, Event, Record, eventRecord, lastRecord, refusedRecord, atPoint, taken, eventRecords, inlineRecords, flowRecords, blockRecords, traceBytes}
use Rattle.rules.specs.ReadBack.{Fits, ReadsBack, TracesReadBack}
use Rattle.rules.proofs.Events.{taken-size, Placed, AllPlaced, text-placed, flow-placed}
use Rattle.records.proofs.Records.{Sound}
use Rattle.records.proofs.Walks.{read-written}
use Rattle.trace.proofs.Stops.{admitted, found-lies, none-passes}
use Rattle.trace.proofs.BlockStops.{block-admitted, block-found-lies, block-none-passes}
use Rattle.trace.proofs.Empty.{exit-to}

fitting : (r : Record) → Sound wide r → Fits wide r
fitting (eventRecord kind l c i v) s = s.2
fitting (lastRecord kind stop n) s = s.2
fitting (refusedRecord n) s = absurd s

reads-back : (rs : List Record) → All (Sound wide) rs → ReadsBack rs (traceBytes wide rs)
reads-back rs s = record { fit = All-weaker (Sound wide) (Fits wide) fitting rs s; read = λ n. read-written wide rs n s }

module _ (text : List ℕ) (small : length text ≤ limit) where
  point-sound : (e : Event) → Placed (length text) e → Sound wide (atPoint e.kind (pointAt text e.index))
  unfolding limit
  point-sound e p =
      let f = point-fits text e.index p.2 (omega arith) in
      (p.0, p.1, (omega (arith, f.line-below), omega (arith, f.column-below), omega (arith, f.index-is)))

  -- events, and a last record behind them
  last-sound : (kind stop n : ℕ) → 13 ≤ kind → kind ≤ 14 → stop ≤ length text → All (Sound wide) (lastRecord kind stop n ∷ [])
  unfolding limit
  last-sound kind stop n lo hi h = All-cons (Sound wide) (lastRecord kind stop n) [] (lo, hi, omega arith) (All-nil (Sound wide))

  ended-sound : (es : List Event) (kind stop n : ℕ) → AllPlaced (length text) es → 13 ≤ kind → kind ≤ 14 → stop ≤ length text
      → All (Sound wide) (eventRecords text es ++ (lastRecord kind stop n ∷ []))
  ended-sound es kind stop n p lo hi h =
      All-append (Sound wide) (eventRecords text es) (lastRecord kind stop n ∷ [])
      (All-map (Sound wide) (λ e. atPoint e.kind (pointAt text e.index)) es (All-weaker (Placed (length text)) (λ e. Sound wide (atPoint e.kind (pointAt text e.index))) point-sound es p.each))
      (last-sound kind stop n lo hi h)

module _ (text : List ℕ) (i k : ℕ) where
  inline-sound : (a : InlineAnswer) → inlineScan ofCrate text i k ≡ a → All (Sound wide) (inlineRecords text i a)
  unfolding inlineRecords
  inline-sound (foundInline stop c) e =
      let b = found-lies text i k stop c e in
      ended-sound text b.small _ 13 stop c (text-placed (length text) i stop (taken text i stop) (omega (arith, taken-size text i stop b.from b.to)) b.to) (omega arith) (omega arith) b.to
  inline-sound (noInline c) e =
      let m = admitted text i k (none-passes text i k c e) in
      last-sound text m.small 13 i c (omega arith) (omega arith) m.within
  inline-sound (refusedInline n c) e = All-nil (Sound wide)

module _ (text flags : List ℕ) (i : ℕ) where
  block-sound : (a : BlockAnswer) → blockScan ofCrate text flags i ≡ a → All (Sound wide) (blockRecords text i a)
  unfolding blockRecords flowRecords
  block-sound (foundBlock f) e =
      let b = block-found-lies text flags i f e in
      ended-sound text b.small _ 14 f.stop f.kind
      (flow-placed (length text) i _ (taken text i f.stop) (omega (arith, taken-size text i f.stop b.from b.to)) (exit-to text i f.kind f.stop f.closed b.to)) (omega arith) (omega arith) b.to
  block-sound noBlock e =
      let m = block-admitted text flags i (block-none-passes text flags i e) in
      last-sound text m.small 14 i 0 (omega arith) (omega arith) m.within
  block-sound (refusedBlock n) e = All-nil (Sound wide)

pub traces-read-back : TracesReadBack
traces-read-back =
    record {
      inline = λ text i k. reads-back _ (inline-sound text i k _ refl);
      block = λ text flags i. reads-back _ (block-sound text flags i _ refl);
    }
