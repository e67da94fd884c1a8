-- Laws of marking events: the point of an event is that of its index, and events behind events are the events of both.
use Rattle.std.proofs.Common.{◌≡◌, refl, sym, ◌∙◌, ap, subst, List, [], ◌∷◌, ◌++◌, ℕ, ◌+◌, ◌*◌, ◌-◌, ◌<◌, ◌≤◌, arith, length, drop, length-append}
use Rattle.lexical.specs.Text.{limit}
use Rattle.lexical.specs.Point.{start, movedBy, pointAt}
use Rattle.lexical.specs.declared.event.Point.{Point}
use Rattle.lexical.proofs.Moves.{point-start, point-on}
use Rattle.lexical.proofs.Bounds.{Fit, point-fits}
use Rattle.rules.specs.Trace.{wide, Event, event, lastRecord, atPoint, eventRecords, recordBytes, traceBytes}
use Rattle.lexical.specs.Buffer.{Written}
use Rattle.trace.specs.Writing.{eventLength, lastLength, eventBytes, endedBytes}
use Rattle.trace.specs.Marking.{Kept, Marked}
use Rattle.trace.specs.declared.pen.Pen.{Pen}
use Rattle.lexical.proofs.Stores.{then, nothing-written}
use Rattle.records.specs.Writing.{placed}
use Rattle.records.proofs.Stores.{placed-whole}
use Rattle.records.proofs.Records.{bytes-append, event-bytes, last-bytes, one-record}

-- ---- records and bytes of events
records-append : (text : List ℕ) (a b : List Event) → eventRecords text (a ++ b) ≡ eventRecords text a ++ eventRecords text b
records-append text [] b = refl
records-append text (e ∷ a) b = ap (λ rs. atPoint e.kind (pointAt text e.index) ∷ rs) (records-append text a b)

pub events-length : (text : List ℕ) (es : List Event) → length (eventBytes text es) ≡ eventLength * length es
unfolding traceBytes
events-length text [] = refl
events-length text (e ∷ es) =
    let p = pointAt text e.index in
    let l = events-length text es in
    omega (arith, length-append (recordBytes wide (atPoint e.kind p)) (eventBytes text es), event-bytes wide e.kind p.line p.column p.index p.vs)

module _ (text : List ℕ) where
  pub events-append : (a b : List Event) → eventBytes text (a ++ b) ≡ eventBytes text a ++ eventBytes text b
  events-append a b = ap (traceBytes wide) (records-append text a b) ∙ bytes-append wide (eventRecords text a) (eventRecords text b)

  one-event : (kind index : ℕ) → eventBytes text (event kind index ∷ []) ≡ recordBytes wide (atPoint kind (pointAt text index))
  one-event kind index = one-record wide (atPoint kind (pointAt text index))

  -- with a last record behind them
  pub ended : (es : List Event) (kind stop n : ℕ) → endedBytes text es kind stop n ≡ eventBytes text es ++ recordBytes wide (lastRecord kind stop n)
  ended es kind stop n =
      bytes-append wide (eventRecords text es) (lastRecord kind stop n ∷ []) ∙ ap (λ s. eventBytes text es ++ s) (one-record wide (lastRecord kind stop n))

pub trace-length : (text : List ℕ) (es : List Event) (kind stop n : ℕ) → length (endedBytes text es kind stop n) ≡ eventLength * length es + lastLength
trace-length text es kind stop n =
    omega (arith, ap length (ended text es kind stop n), length-append (eventBytes text es) (recordBytes wide (lastRecord kind stop n)), events-length text es, last-bytes wide kind stop n)

-- ---- points
-- the point moved to an index is that of the index
pub arrives : (text : List ℕ) (q p : Point) {index : ℕ} → q ≡ pointAt text q.index → q.index ≤ index → p ≡ movedBy (index - q.index) q (drop q.index text) → p ≡ pointAt text index
arrives text q p {index} stands forward e = e ∙ ap (λ o. movedBy (index - q.index) o (drop q.index text)) stands ∙ point-on text q.index index forward

module _ (text : List ℕ) {index : ℕ} (small : length text ≤ limit) (within : index ≤ length text) (p : Point) (e : p ≡ pointAt text index) where
  standing : Fit index (pointAt text index)
  unfolding limit
  standing = point-fits text index within (omega arith)

  pub index-is : p.index ≡ index
  index-is = ap (λ q. q.index) e ∙ standing.index-is

  pub vs-small : p.vs < 256
  vs-small = let z : p.vs ≡ 0 = ap (λ q. q.vs) e ∙ standing.vs-is in omega arith

  pub stands-there : p ≡ pointAt text p.index
  stands-there = e ∙ ap (pointAt text) (sym index-is)

-- the first point is that of index 0
pub stands-first : (text : List ℕ) (p : Point) → p ≡ start → p ≡ pointAt text p.index
stands-first text p e = let z : p.index ≡ 0 = ap (λ q. q.index) e in e ∙ sym (point-start text) ∙ ap (pointAt text) (sym z)

-- ---- what is written
-- the record of an event, where there is room for it
pub event-written : (text : List ℕ) {old new : List ℕ} {at : ℕ} (kind index : ℕ) (p : Point) → p ≡ pointAt text index → at + eventLength ≤ length old
    → Written old at (placed (length old) at (recordBytes wide (atPoint kind p))) new → Written old at (eventBytes text (event kind index ∷ [])) new
event-written text {old} {new} {at} kind index p e room w =
    subst (λ b. Written old at b new) (ap (λ q. recordBytes wide (atPoint kind q)) e ∙ sym (one-event text kind index))
    (placed-whole (recordBytes wide (atPoint kind p)) (omega (arith, room, event-bytes wide kind p.line p.column p.index p.vs)) w)

-- a last one
pub last-written : {old new : List ℕ} {at : ℕ} (kind stop n : ℕ) → at + lastLength ≤ length old → Written old at (placed (length old) at (recordBytes wide (lastRecord kind stop n))) new
    → Written old at (recordBytes wide (lastRecord kind stop n)) new
last-written {old} {new} {at} kind stop n room w = placed-whole (recordBytes wide (lastRecord kind stop n)) (omega (arith, room, last-bytes wide kind stop n)) w

-- ---- one marking behind the other
kept-on : {a b c : Pen} → Kept a b → Kept b c → Kept a c
kept-on k l = record { text = l.text ∙ k.text; front = l.front ∙ k.front; lent = l.lent ∙ k.lent; size = l.size ∙ k.size }

pub and-then : {a b c : Pen} {es fs : List Event} → Marked a es b → Marked b fs c → Marked a (es ++ fs) c
and-then {a} {b} {c} {es} {fs} v w =
    let text = a.text.now in
    record {
      kept = kept-on v.kept w.kept;
      bytes =
          subst (λ l. Written a.out.now a.at l c.out.now) (sym (events-append text es fs))
          (then (v.at-is ∙ ap (λ n. a.at + n) (sym (events-length text es))) v.bytes (subst (λ t. Written b.out.now b.at (eventBytes t.now fs) c.out.now) v.kept.text w.bytes));
      at-is = omega (arith, v.at-is, w.at-is, length-append es fs);
    }

-- the same events by another name
pub renamed : {a b : Pen} {es : List Event} (fs : List Event) → fs ≡ es → Marked a es b → Marked a fs b
renamed {a} {b} fs e m = subst (λ l. Marked a l b) (sym e) m

-- nothing is marked
pub marked-none : (pen : Pen) → Marked pen [] pen
unfolding traceBytes
marked-none pen = record { kept = record { text = refl; front = refl; lent = refl; size = refl }; bytes = nothing-written; at-is = omega arith }

-- a last record behind the events of a pen that began at the front
pub and-last : {a b : Pen} {es : List Event} (c : Pen) (kind stop n : ℕ) → a.at ≡ 0 → Marked a es b → Written b.out.now b.at (recordBytes wide (lastRecord kind stop n)) c.out.now
    → Written a.out.now 0 (endedBytes a.text.now es kind stop n) c.out.now
and-last {a} {b} {es} c kind stop n z m w =
    subst (λ l. Written a.out.now 0 l c.out.now) (sym (ended a.text.now es kind stop n))
    (then (omega (arith, z, m.at-is, events-length a.text.now es)) (subst (λ i. Written a.out.now i (eventBytes a.text.now es) b.out.now) z m.bytes) w)

-- what the pen leaves is what is lent back
pub lent-back : {old now new : List ℕ} {at : ℕ} {bs : List ℕ} → new ≡ now → Written old at bs now → Written old at bs new
lent-back e w = rw e w
