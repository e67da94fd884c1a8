-- Spans are pieces by their numbers. Where they are not refused they stand in order, so the laws of pieces in order hold of them: what is shown is the bytes up to
-- the first, and then what the others leave of the bytes from its stop on.
use Rattle.std.proofs.Common.{◌≡◌, refl, sym, ◌∙◌, ap, Bool, true, false, ◌&&◌, ◌||◌, not, List, [], ◌∷◌, ◌++◌, append-nil, ℕ, zero, suc, ◌+◌, ◌-◌, ◌*◌, ◌<◌, ◌≤◌, arith, eqb, leb, ltb, length, take, drop, length-append, length-drop, length-take-le, take_all, le-leb, le-ltb, lt-ltb, leb-true, ltb-true, eqb-true}
use Rattle.std.proofs.lemmas.Bool.{and_parts}
use Rattle.lexical.specs.Text.{limit}
use Rattle.lexical.proofs.Cases.{split, clash}
use Rattle.rules.specs.Search.{choose}
use Rattle.rules.specs.Refusal.{refusal, tooLong, bulletinRefusal, outputRefusal}
use Rattle.rules.specs.Withhold.{Which, inline, block, Piece, pieces, holds, isWithheld, outside, shown, count, shows, refusedShown}
use Rattle.rules.specs.Spans.{sortOf, spansOf, foundSpans, find, findRefusal, areSpans, asPieces, spansRefusal, showRefusal, show, part, partOf, stretchPart, partBytes, stretch, withholdRefusal, withhold, spanBytes, joined, ShowsSpans, thenShow, FindThenShow}
use Rattle.rules.specs.Output.{wrote, refusedWrite, answering}
use Rattle.rules.specs.declared.Rules.{Rules}
use Rattle.rules.proofs.Refusals.{not-met, within-limit, output-first, output-passed, output-reads}
use Rattle.runs.proofs.Ordered.{Ordered, none, one-more, bounds, fewer, outside-next, outside-none, pieces-ordered}

-- ---- the spans of pieces
-- pieces read back from their spans hold the same bytes
held-back : (i : ℕ) (ps : List Piece) → isWithheld i (asPieces (spansOf ps)) ≡ isWithheld i ps
unfolding spansOf isWithheld
held-back i [] = refl
held-back i (p ∷ ps) = ap (λ (b : Bool). holds i p || b) (held-back i ps)

outside-back : (i : ℕ) (ps : List Piece) (s : List ℕ) → outside i (asPieces (spansOf ps)) s ≡ outside i ps s
unfolding outside
outside-back i ps [] = refl
outside-back i ps (x ∷ s) = rw (held-back i ps, outside-back (suc i) ps s)

sort-one : (w : Which) → leb (sortOf w) 1 ≡ true
sort-one inline = refl
sort-one (block k closed) = refl

spans-ordered : {lo hi : ℕ} {ps : List Piece} → Ordered lo hi ps → areSpans lo hi (spansOf ps) ≡ true
unfolding areSpans spansOf
spans-ordered (none h) = refl
spans-ordered {lo} {hi} (one-more {p = p} a b o) =
    rw (le-leb lo p.start a, lt-ltb p.start p.stop b, le-leb p.stop hi (bounds o), sort-one p.which) (spans-ordered o)

pub spans-length : (ps : List Piece) → length (spansOf ps) ≡ 3 * length ps
unfolding spansOf
spans-length [] = refl
spans-length (p ∷ ps) = omega (arith, spans-length ps)

-- ---- spans from an index on, that are not refused
pub data Spans : ℕ → ℕ → List ℕ → Type 0 where
  no-more : {from end : ℕ} → from ≤ end → Spans from end []
  span : {from end : ℕ} (a b k : ℕ) {s : List ℕ} → from ≤ a → a < b → b ≤ end → Spans b end s → Spans from end (a ∷ b ∷ k ∷ s)

pub are-spans : (from end : ℕ) (s : List ℕ) → from ≤ end → areSpans from end s ≡ true → Spans from end s
unfolding areSpans
are-spans from end [] l h = no-more l
are-spans from end (a ∷ []) l h = clash true refl (sym h)
are-spans from end (a ∷ b ∷ []) l h = clash true refl (sym h)
are-spans from end (a ∷ b ∷ k ∷ s) l h =
    let x = and_parts (leb from a && ltb a b) ((leb b end && leb k 1) && areSpans b end s) h in
    let y = and_parts (leb from a) (ltb a b) x.0 in
    let z = and_parts (leb b end && leb k 1) (areSpans b end s) x.1 in
    let c = leb-true b end (and_parts (leb b end) (leb k 1) z.0).0 in
    span a b k (leb-true from a y.0) (ltb-true a b y.1) c (are-spans b end s c z.1)

pub as-ordered : {from end : ℕ} {s : List ℕ} → Spans from end s → Ordered from end (asPieces s)
as-ordered (no-more l) = none l
as-ordered (span a b k h l m w) = one-more h l (as-ordered w)

module _ (text : List ℕ) where
  -- the law of showing, from span to span
  beside-next : {from a b k : ℕ} {s : List ℕ} → Spans from (length text) (a ∷ b ∷ k ∷ s)
      → outside from (asPieces (a ∷ b ∷ k ∷ s)) (drop from text) ≡ take (a - from) (drop from text) ++ outside b (asPieces s) (drop b text)
  beside-next w = outside-next text _ (length text) _ _ (as-ordered w) (omega arith)

  -- shown bytes and span bytes
  pub part-length : (from n : ℕ) → from + n ≤ length text → length (take n (drop from text)) ≡ n
  part-length from n l = length-take-le n (drop from text) (omega (arith, length-drop from text, l))

  pub sum : {from : ℕ} {s : List ℕ} → Spans from (length text) s → length (outside from (asPieces s) (drop from text)) + spanBytes s + from ≡ length text
  unfolding spanBytes
  sum {from} (no-more l) = omega (arith, l, ap length (outside-none from (drop from text)), length-drop from text)
  sum {from} (span a b k {s} h l m w) =
      let i = sum w in
      let e = ap length (beside-next (span a b k h l m w)) ∙ length-append (take (a - from) (drop from text)) (outside b (asPieces s) (drop b text)) in
      let p = part-length from (a - from) (omega (arith, h, l, m)) in
      omega (arith, i, e, p, h, l)

  pub beside-most : (spans : List ℕ) → areSpans 0 (length text) spans ≡ true → length (outside 0 (asPieces spans) text) ≤ length text
  beside-most spans h = omega (arith, sum (are-spans 0 (length text) spans (omega arith) h))

  -- ---- stretches
  abbrev size : ℕ
  size = length text

  abbrev partsFrom : ℕ → List ℕ → ℕ → ℕ → List ℕ
  partsFrom from s k zero = []
  partsFrom from s k (suc n) = partBytes text (partOf k from size s) ++ partsFrom from s (suc k) n

  parts-shift : (from a b k : ℕ) (s : List ℕ) (i n : ℕ) → partsFrom from (a ∷ b ∷ k ∷ s) (suc i) n ≡ partsFrom b s i n
  unfolding partOf
  parts-shift from a b k s i zero = refl
  parts-shift from a b k s i (suc n) = ap (λ (t : List ℕ). partBytes text (partOf i b size s) ++ t) (parts-shift from a b k s (suc i) n)

  parts-all : {from : ℕ} {s : List ℕ} → Spans from size s → partsFrom from s 0 (suc (length (asPieces s))) ≡ outside from (asPieces s) (drop from text)
  unfolding partOf
  parts-all {from} (no-more l) =
      append-nil (take (size - from) (drop from text)) ∙ take_all (size - from) (drop from text) (omega (arith, length-drop from text)) ∙ sym (outside-none from (drop from text))
  parts-all {from} (span a b k {s} h l m w) =
      ap (λ (t : List ℕ). take (a - from) (drop from text) ++ t) (parts-shift from a b k s 0 (suc (length (asPieces s))) ∙ parts-all w)
      ∙ sym (beside-next (span a b k h l m w))

  pub part-within : {from : ℕ} {s : List ℕ} → Spans from size s → (n : ℕ) → (partOf n from size s).start + (partOf n from size s).size ≤ size
  unfolding partOf
  part-within (no-more l) zero = omega (arith, l)
  part-within (no-more l) (suc n) = omega arith
  part-within (span a b k h l m w) zero = omega (arith, h, l, m)
  part-within (span a b k h l m w) (suc n) = part-within w n

  part-other : {from : ℕ} {s : List ℕ} → Spans from size s → (n : ℕ) → length (asPieces s) < n → partOf n from size s ≡ part 0 0
  unfolding partOf
  part-other (no-more l) zero e = absurd (omega (arith, e))
  part-other (no-more l) (suc n) e = refl
  part-other (span a b k h l m w) zero e = absurd (omega (arith, e))
  part-other (span a b k h l m w) (suc n) e = part-other w n (omega (arith, e))

  whole-spans : {from : ℕ} {s : List ℕ} → Spans from size s → length s ≡ 3 * length (asPieces s)
  whole-spans (no-more l) = refl
  whole-spans (span a b k h l m w) = omega (arith, whole-spans w)

-- ---- of all spans that are not refused
pub good-spans : (text spans : List ℕ) → spansRefusal text spans ≡ 0 → areSpans 0 (length text) spans ≡ true
unfolding spansRefusal
good-spans text spans h =
    split (areSpans 0 (length text) spans) (λ t. t)
    (λ t. clash (not (areSpans 0 (length text) spans)) (ap not t) (not-met (tooLong text ∷ []) [] (not (areSpans 0 (length text) spans)) 12 refl refl h))

joined-is : (text spans : List ℕ) → spansRefusal text spans ≡ 0 → (n k : ℕ) → joined text spans k n ≡ partsFrom text 0 spans k n
unfolding joined stretch stretchPart
joined-is text spans h zero k = refl
joined-is text spans h (suc n) k = rw (h, joined-is text spans h n (suc k)) refl

pub shows-spans : ShowsSpans
unfolding stretchPart
shows-spans text spans h =
    let l : 0 ≤ length text = omega arith in
    let w = are-spans 0 (length text) spans l (good-spans text spans h) in
    let is : (n : ℕ) → stretchPart text spans n ≡ partOf n 0 (length text) spans = λ n. rw h refl in
    record {
      bytes-sum = omega (arith, sum text w);
      number = length (asPieces spans);
      whole = whole-spans text w;
      stretches = joined-is text spans h (suc (length (asPieces spans))) 0 ∙ parts-all text w;
      within = λ n. rw (is n) (part-within text w n);
      other = λ n e. is n ∙ part-other text w n e;
    }

-- ---- the spans found
-- the answer of showing after finding, whether it is refused or not
both-ways : (b : Bool) (n l r : ℕ) → choose b (λ _. shows l n) (λ _. refusedShown r) ≡ thenShow (wrote n) (choose b (λ _. wrote l) (λ _. refusedWrite r))
both-ways true n l r = refl
both-ways false n l r = refl

module _ (ρ : Rules) (text flags : List ℕ) where
  pub found-ordered : areSpans 0 (length text) (foundSpans ρ text flags) ≡ true
  unfolding foundSpans
  found-ordered = spans-ordered (pieces-ordered ρ text flags)

  pub beside-found : outside 0 (asPieces (foundSpans ρ text flags)) text ≡ shown ρ text flags
  unfolding foundSpans shown
  beside-found = outside-back 0 (pieces ρ text flags) text

  -- no more bytes are shown than there are
  pub shown-most : length (shown ρ text flags) ≤ length text
  shown-most = omega (arith, beside-most text (foundSpans ρ text flags) found-ordered, ap length beside-found)

  pub found-length : length (foundSpans ρ text flags) ≡ 3 * count ρ text flags
  unfolding foundSpans count
  found-length = spans-length (pieces ρ text flags)

  pub found-most : length (foundSpans ρ text flags) ≤ 3 * length text
  unfolding count
  found-most = omega (arith, found-length, fewer (pieces-ordered ρ text flags))

  shows-found : bulletinRefusal text flags ≡ 0 → spansRefusal text (foundSpans ρ text flags) ≡ 0
  unfolding spansRefusal refusal
  shows-found h = rw (le-ltb limit (length text) (within-limit text flags h), found-ordered) refl

  -- what find takes is read
  taken : (list : ℕ) → findRefusal ρ text flags list ≡ 0 → bulletinRefusal text flags ≡ 0
  unfolding findRefusal
  taken list z = output-passed (bulletinRefusal text flags) list (foundSpans ρ text flags) z

  pub same-refusal : (list room : ℕ) → findRefusal ρ text flags list ≡ 0 → showRefusal text (foundSpans ρ text flags) room ≡ withholdRefusal ρ text flags list room
  unfolding showRefusal withholdRefusal
  same-refusal list room h = rw (h, shows-found (taken list h), beside-found) refl

  -- where find is refused, so is withholding
  find-first : (list room : ℕ) → eqb (findRefusal ρ text flags list) 0 ≡ false → withholdRefusal ρ text flags list room ≡ findRefusal ρ text flags list
  unfolding withholdRefusal
  find-first list room h =
      output-first (findRefusal ρ text flags list) room (shown ρ text flags) (λ s. clash (eqb (findRefusal ρ text flags list) 0) (ap (λ t. eqb t 0) s) h)

  same-answer : (list room : ℕ) → withhold ρ text flags list room ≡ thenShow (find ρ text flags list) (show text (foundSpans ρ text flags) room)
  unfolding withhold find show answering
  same-answer list room =
      split (eqb (findRefusal ρ text flags list) 0)
      (λ h. rw (h, same-refusal list room (eqb-true _ 0 h), beside-found) (both-ways (eqb (withholdRefusal ρ text flags list room) 0) _ _ _))
      (λ h. rw (h, find-first list room h, h) refl)

  list-enough : (list room : ℕ) → length (foundSpans ρ text flags) ≤ list → withholdRefusal ρ text flags list room ≡ outputRefusal (bulletinRefusal text flags) room (shown ρ text flags)
  unfolding withholdRefusal findRefusal
  list-enough list room l = ap (λ n. outputRefusal n room (shown ρ text flags)) (output-reads (bulletinRefusal text flags) list (foundSpans ρ text flags) l)

pub find-then-show : (ρ : Rules) → FindThenShow ρ
find-then-show ρ text flags =
    record {
      ordered = found-ordered ρ text flags;
      number = found-length ρ text flags;
      most = found-most ρ text flags;
      same-bytes = beside-found ρ text flags;
      same-answer = same-answer ρ text flags;
      list-enough = list-enough ρ text flags;
    }
