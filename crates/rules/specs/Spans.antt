-- SCOPE, Find first, show afterwards: the spans of what is withheld, what is shown beside given spans, and withholding as the two in turn. A list of spans has three
-- numbers for each: start, stop, and 0 for inline or 1 for block.
use Rattle.std.specs.Prelude.{ℕ, zero, suc, ◌+◌, ◌-◌, ◌*◌, ◌<◌, ◌≤◌, ◌≡◌, Bool, true, false, ◌&&◌, not, List, [], ◌∷◌, ◌++◌, eqb, leb, ltb, length, take, drop}
use Rattle.rules.specs.Search.{choose}
use Rattle.rules.specs.Refusal.{Check, check, refusal, tooLong, bulletinRefusal, outputRefusal}
use Rattle.rules.specs.Withhold.{Which, inline, block, Piece, piece, pieces, outside, shown, count, Shown, shows, refusedShown}
use Rattle.rules.specs.Output.{Wrote, wrote, refusedWrite, answering, writing}
use Rattle.rules.specs.declared.Rules.{Rules}

-- ---- find
abbrev pub sortOf : Which → ℕ
sortOf inline = 0
sortOf (block k closed) = 1

-- the span of each piece, in text order
unfoldable pub spansOf : List Piece → List ℕ
spansOf [] = []
spansOf (p ∷ ps) = p.start ∷ (p.stop ∷ (sortOf p.which ∷ spansOf ps))

unfoldable pub foundSpans : Rules → List ℕ → List ℕ → List ℕ
foundSpans ρ text flags = spansOf (pieces ρ text flags)

-- 1, 2, 3, then 7; room is the length of the list
unfoldable pub findRefusal : Rules → List ℕ → List ℕ → ℕ → ℕ
findRefusal ρ text flags room = outputRefusal (bulletinRefusal text flags) room (foundSpans ρ text flags)

-- the number of spans
unfoldable pub find : Rules → List ℕ → List ℕ → ℕ → Wrote
find ρ text flags room = answering (findRefusal ρ text flags room) (count ρ text flags)

-- ---- show
-- spans are whole; in order and none over another, the first from an index on; each stop is above its start, none past the end; of kind 0 or 1
unfoldable pub areSpans : ℕ → ℕ → List ℕ → Bool
areSpans from end [] = true
areSpans from end (a ∷ []) = false
areSpans from end (a ∷ b ∷ []) = false
areSpans from end (a ∷ b ∷ k ∷ s) = (leb from a && ltb a b) && ((leb b end && leb k 1) && areSpans b end s)

-- given spans, read as pieces: what stands outside them asks for no kind
abbrev pub asPieces : List ℕ → List Piece
asPieces [] = []
asPieces (a ∷ []) = []
asPieces (a ∷ b ∷ []) = []
asPieces (a ∷ b ∷ k ∷ s) = piece a b inline ∷ asPieces s

-- 12
abbrev pub wrongSpans : List ℕ → List ℕ → Check
wrongSpans text spans = check (not (areSpans 0 (length text) spans)) 12

-- 1, 12
unfoldable pub spansRefusal : List ℕ → List ℕ → ℕ
spansRefusal text spans = refusal (tooLong text ∷ wrongSpans text spans ∷ [])

-- 1, 12, then 7; room is the length of the output buffer
unfoldable pub showRefusal : List ℕ → List ℕ → ℕ → ℕ
showRefusal text spans room = outputRefusal (spansRefusal text spans) room (outside 0 (asPieces spans) text)

unfoldable pub show : List ℕ → List ℕ → ℕ → Wrote
show text spans room = writing (showRefusal text spans room) (outside 0 (asPieces spans) text)

-- ---- stretches
-- a part of a bulletin: its first index and its length
pub record Part : Type 0 where
  pub start : ℕ
  pub size : ℕ

abbrev pub part : ℕ → ℕ → Part
part i n = record { start = i; size = n }

-- stretch n: before span n, or after the last; the spans stand from an index on
unfoldable pub partOf : ℕ → ℕ → ℕ → List ℕ → Part
partOf zero from end [] = part from (end - from)
partOf (suc n) from end [] = part 0 0
partOf n from end (a ∷ []) = part 0 0
partOf n from end (a ∷ b ∷ []) = part 0 0
partOf zero from end (a ∷ b ∷ k ∷ s) = part from (a - from)
partOf (suc n) from end (a ∷ b ∷ k ∷ s) = partOf n b end s

-- empty for any other input
unfoldable pub stretchPart : List ℕ → List ℕ → ℕ → Part
stretchPart text spans n = choose (eqb (spansRefusal text spans) 0) (λ _. partOf n 0 (length text) spans) (λ _. part 0 0)

abbrev pub partBytes : List ℕ → Part → List ℕ
partBytes text p = take p.size (drop p.start text)

unfoldable pub stretch : List ℕ → List ℕ → ℕ → List ℕ
stretch text spans n = partBytes text (stretchPart text spans n)

-- ---- withhold: find, then show
-- 1, 2, 3, then 7, of the list or of the output buffer; list and room are their lengths
unfoldable pub withholdRefusal : Rules → List ℕ → List ℕ → ℕ → ℕ → ℕ
withholdRefusal ρ text flags list room = outputRefusal (findRefusal ρ text flags list) room (shown ρ text flags)

unfoldable pub withhold : Rules → List ℕ → List ℕ → ℕ → ℕ → Shown
withhold ρ text flags list room =
    choose (eqb (withholdRefusal ρ text flags list room) 0) (λ _. shows (length (shown ρ text flags)) (count ρ text flags))
    (λ _. refusedShown (withholdRefusal ρ text flags list room))

-- ---- what is claimed
-- how many bytes the spans have
unfoldable pub spanBytes : List ℕ → ℕ
spanBytes [] = 0
spanBytes (a ∷ []) = 0
spanBytes (a ∷ b ∷ []) = 0
spanBytes (a ∷ b ∷ k ∷ s) = b - a + spanBytes s

-- n stretches one after the other, from stretch k on
unfoldable pub joined : List ℕ → List ℕ → ℕ → ℕ → List ℕ
joined text spans k zero = []
joined text spans k (suc n) = stretch text spans k ++ joined text spans (suc k) n

-- of all spans that are not refused: shown bytes and span bytes together are the bulletin's; the stretches, one more than the spans, are what is shown, each a
-- part of the bulletin, and any other is empty
pub record Shows (text spans : List ℕ) : Type 0 where
  pub bytes-sum : length (outside 0 (asPieces spans) text) + spanBytes spans ≡ length text
  pub number : ℕ
  pub whole : length spans ≡ 3 * number
  pub stretches : joined text spans 0 (suc number) ≡ outside 0 (asPieces spans) text
  pub within : (n : ℕ) → (stretchPart text spans n).start + (stretchPart text spans n).size ≤ length text
  pub other : (n : ℕ) → number < n → stretchPart text spans n ≡ part 0 0

abbrev pub ShowsSpans : Type 0
ShowsSpans = (text spans : List ℕ) → spansRefusal text spans ≡ 0 → Shows text spans

-- the answers of the two, one after the other
abbrev pub thenShow : Wrote → Wrote → Shown
thenShow (wrote n) (wrote l) = shows l n
thenShow (wrote n) (refusedWrite r) = refusedShown r
thenShow (refusedWrite r) w = refusedShown r

-- the spans found stand in order, disjoint, each with a byte, three numbers for each piece and for no byte more than three; showing beside them is withholding; and a
-- list that has room for them changes no answer
pub record InTurn (ρ : Rules) (text flags : List ℕ) : Type 0 where
  pub ordered : areSpans 0 (length text) (foundSpans ρ text flags) ≡ true
  pub number : length (foundSpans ρ text flags) ≡ 3 * count ρ text flags
  pub most : length (foundSpans ρ text flags) ≤ 3 * length text
  pub same-bytes : outside 0 (asPieces (foundSpans ρ text flags)) text ≡ shown ρ text flags
  pub same-answer : (list room : ℕ) → withhold ρ text flags list room ≡ thenShow (find ρ text flags list) (show text (foundSpans ρ text flags) room)
  pub list-enough : (list room : ℕ) → length (foundSpans ρ text flags) ≤ list → withholdRefusal ρ text flags list room ≡ outputRefusal (bulletinRefusal text flags) room (shown ρ text flags)

abbrev pub FindThenShow : Rules → Type 0
FindThenShow ρ = (text flags : List ℕ) → InTurn ρ text flags
