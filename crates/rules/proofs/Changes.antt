-- Where each of the eight changes is read. Inline: at `<![` only T2, elsewhere only T1. Blocks: kinds 1 to 6 read only F1, and of these kind 5 alone; whether a line
-- opens kind 7 is a bit, and the readings without one change bound it from both sides.
use Rattle.std.proofs.Common.{◌≡◌, refl, sym, ◌∙◌, ap, Bool, true, false, ◌&&◌, ◌||◌, not, List, [], ◌∷◌, ℕ, zero, suc, ◌+◌, leb, eqb, length, drop}
use Rattle.std.proofs.lemmas.Bool.{and_parts}
use Rattle.lexical.specs.Text.{bytes, first}
use Rattle.lexical.specs.Byte.{isLetter}
use Rattle.lexical.specs.Name.{isRawName}
use Rattle.lexical.proofs.Cases.{split, clash}
use Rattle.rules.specs.Reading.{Change, F1, F2, F3, F4, F5, F6, T1, T2, standard, without}
use Rattle.rules.specs.Search.{choose, begins, Left, left, nothing}
use Rattle.rules.specs.Tag.{blockTags, openTag, closingTag}
use Rattle.rules.specs.Inline.{carrying, keeping, htmlTag, rawHtml, readInline}
use Rattle.rules.specs.Lines.{Line, isInterrupt}
use Rattle.rules.specs.Block.{nameOf, startsRaw, startsBasic, fillsLine, startsComplete, mayStart, kindAt, indentation, kindOf, beforeCloser, closes, goesOn, extentOf, inLast}
use Rattle.rules.specs.Scan.{Found, BlockAnswer, foundBlock, noBlock, blockFound, blockOf}
use Rattle.rules.specs.declared.Rules.{Rules}
use Rattle.rules.proofs.Complete.{open-grows, open-falls}

-- ---- inline
-- at `<![` no tag is read
cdata-alike : (ρ σ : Rules) (k : ℕ) (s : List ℕ) → begins (bytes "<![") s ≡ true → rawHtml ρ k s ≡ rawHtml σ k s
unfolding rawHtml
cdata-alike ρ σ k s e = simp e

kept : (k c : ℕ) (l : Left) → keeping k (carrying c l) ≡ carrying k l
kept k c (left s) = refl
kept k c nothing = refl

-- elsewhere the carry is not read
pub elsewhere : (ρ : Rules) (k : ℕ) (s : List ℕ) → begins (bytes "<![") s ≡ false → readInline ρ k s ≡ carrying k (htmlTag ρ s)
unfolding rawHtml readInline
elsewhere ρ k s e = split ρ.t2 (λ t. simp (t, e)) (λ t. simp (t, e) (kept k 0 (htmlTag ρ s)))

-- at `<![` leaving T2 out gives the standard reading, elsewhere leaving T1 out does
pub read-without-T2 : (k : ℕ) (s : List ℕ) → begins (bytes "<![") s ≡ true → readInline (without T2) k s ≡ readInline standard k s
unfolding readInline
read-without-T2 k s e = ap (keeping k) (cdata-alike (without T2) standard 0 s e)

pub read-without-T1 : (k : ℕ) (s : List ℕ) → begins (bytes "<![") s ≡ false → readInline (without T1) k s ≡ readInline standard k s
unfolding htmlTag
read-without-T1 k s e = elsewhere (without T1) k s e ∙ sym (elsewhere standard k s e)

-- ---- kinds 1 to 6
-- the closer reads only F1, and that of kind 5 alone
same-closer : (ρ σ : Rules) → ρ.f1 ≡ σ.f1 → (k : ℕ) (s : List ℕ) → beforeCloser ρ k s ≡ beforeCloser σ k s
unfolding beforeCloser
same-closer ρ σ e k s = simp e

pub other-closer : (ρ σ : Rules) (k : ℕ) → eqb k 5 ≡ false → (s : List ℕ) → beforeCloser ρ k s ≡ beforeCloser σ k s
unfolding beforeCloser
other-closer ρ σ k e s = simp e

-- two counts of a line's bytes that agree give the same index in the last line
last-alike : (f g : List ℕ → ℕ) → ((s : List ℕ) → f s ≡ g s) → (i n : ℕ) (ls : List Line) → inLast f i n ls ≡ inLast g i n ls
unfolding inLast
last-alike f g e i zero ls = refl
last-alike f g e i (suc n) [] = refl
last-alike f g e i (suc zero) (l ∷ ls) = rw (e l.content)
last-alike f g e i (suc (suc n)) (l ∷ []) = rw (e l.content)
last-alike f g e i (suc (suc n)) (l ∷ m ∷ ls) = last-alike f g e (i + length l.content + length m.lead) (suc n) (m ∷ ls)

-- what is found of kind k reads of the changes what the closer reads
module _ (ρ σ : Rules) (k : ℕ) (e : (s : List ℕ) → beforeCloser ρ k s ≡ beforeCloser σ k s) where
  closes-alike : (s : List ℕ) → closes ρ k s ≡ closes σ k s
  unfolding closes
  closes-alike s = rw (e s)

  goes-alike : (ls : List Line) → goesOn ρ k ls ≡ goesOn σ k ls
  unfolding goesOn
  goes-alike [] = refl
  goes-alike (l ∷ ls) = simp (closes-alike, goes-alike ls)

  extent-alike : (l : Line) (ls : List Line) → extentOf ρ k l ls ≡ extentOf σ k l ls
  unfolding extentOf
  extent-alike l ls = simp (closes-alike, goes-alike)

  pub found-alike : (i : ℕ) (l : Line) (ls : List Line) → blockFound ρ k i l ls (extentOf ρ k l ls) ≡ blockFound σ k i l ls (extentOf σ k l ls)
  found-alike i l ls = rw (extent-alike l ls, last-alike (beforeCloser ρ k) (beforeCloser σ k) e i (extentOf σ k l ls).lines (l ∷ ls))

-- ---- kind 7
-- whether a line opens it, where it opens no other
abbrev pub seventh : Rules → ℕ → List ℕ → Bool
seventh ρ f s = startsComplete ρ s && mayStart ρ f

-- the kind that a line opens is the same in every reading, or 7 or none by that bit
pub data Kinds (κ : Rules → ℕ) : Type 0 where
  fixed : (n : ℕ) → ((ρ : Rules) → κ ρ ≡ n) → Kinds κ
  bit : (f : ℕ) (s : List ℕ) → ((ρ : Rules) → κ ρ ≡ choose (seventh ρ f s) (λ _. 7) (λ _. 0)) → Kinds κ

kinds-at : (f : ℕ) (s : List ℕ) → Kinds (λ ρ. kindAt ρ f s)
unfolding kindAt
kinds-at f s =
    split (startsRaw s) (λ h. fixed 1 (λ ρ. simp h))
    (λ a. split (begins (bytes "<!--") s) (λ h. fixed 2 (λ ρ. simp (a, h)))
    (λ b. split (begins (bytes "<?") s) (λ h. fixed 3 (λ ρ. simp (a, b, h)))
    (λ c. split (begins (bytes "<!") s && isLetter (first (drop 2 s))) (λ h. fixed 4 (λ ρ. simp (a, b, c, h)))
    (λ d. split (begins (bytes "<![CDATA[") s) (λ h. fixed 5 (λ ρ. simp (a, b, c, d, h)))
    (λ e. split (startsBasic s) (λ h. fixed 6 (λ ρ. simp (a, b, c, d, e, h)))
    (λ g. bit f s (λ ρ. simp (a, b, c, d, e, g))))))))

pub kinds : (l : Line) → Kinds (λ ρ. kindOf ρ l)
unfolding kindOf
kinds l =
    split (leb (indentation l.content) 3)
    (λ h. indented h (kinds-at l.flag (drop (indentation l.content) l.content)))
    (λ h. fixed 0 (λ ρ. simp h))
  where
    indented : leb (indentation l.content) 3 ≡ true → Kinds (λ ρ. kindAt ρ l.flag (drop (indentation l.content) l.content)) → Kinds (λ ρ. kindOf ρ l)
    indented h (fixed n e) = fixed n (λ ρ. simp h (e ρ))
    indented h (bit f s e) = bit f s (λ ρ. simp h (e ρ))

-- ---- the bit
or-true : (a b : Bool) → (a || b) ≡ true → b ≡ false → a ≡ true
or-true true b h e = refl
or-true false b h e = clash b h e

module _ (f : ℕ) (s : List ℕ) where
  abbrev raw : Bool
  raw = isRawName (nameOf (drop 1 s))

  abbrev opened : Rules → Bool
  opened ρ = fillsLine (openTag (blockTags ρ) s)

  abbrev closed : Bool
  closed = fillsLine (closingTag s)

  -- a closing tag in any reading
  by-closing : (ρ : Rules) → closed ≡ true → startsComplete ρ s ≡ true
  unfolding startsComplete
  by-closing ρ h = split ((ρ.f3 || not raw) && opened ρ) (λ e. simp e) (λ e. simp (e, h))

  -- where no closing tag fills the line, an open tag does
  by-open : (ρ : Rules) → closed ≡ false → startsComplete ρ s ≡ true → ((ρ.f3 || not raw) && opened ρ) ≡ true
  unfolding startsComplete
  by-open ρ n h = or-true ((ρ.f3 || not raw) && opened ρ) closed h n

  complete-of : (ρ : Rules) → ((ρ.f3 || not raw) && opened ρ) ≡ true → startsComplete ρ s ≡ true
  unfolding startsComplete
  complete-of ρ h = simp h

  -- all on takes the line: so does the standard
  pub falls : ((c : Change) → seventh (without c) f s ≡ true) → seventh standard f s ≡ true
  falls h =
      let may : mayStart standard f ≡ true = (and_parts (startsComplete (without F6) s) (mayStart (without F6) f) (h F6)).1 in
      split closed (λ e. simp (by-closing standard e, may))
      (λ e.
      let open-of : (c : Change) → (((without c).f3 || not raw) && opened (without c)) ≡ true = λ c. by-open (without c) e (and_parts (startsComplete (without c) s) (mayStart (without c) f) (h c)).0 in
      let plain : not raw ≡ true = (and_parts (not raw) (opened (without F3)) (open-of F3)).0 in
      let tag : opened standard ≡ true = open-falls s (open-of F2) (open-of F5) in
      simp (complete-of standard (simp (plain, tag)), may))

  -- the standard takes the line: so does the reading without F4
  pub grows : seventh standard f s ≡ true → seventh (without F4) f s ≡ true
  grows h =
      let may : not (isInterrupt f) ≡ true = or-true (not (isInterrupt f)) false (and_parts (startsComplete standard s) (mayStart standard f) h).1 refl in
      let complete = (and_parts (startsComplete standard s) (mayStart standard f) h).0 in
      split closed (λ e. simp (by-closing (without F4) e, may))
      (λ e.
      let both = by-open standard e complete in
      let tag : opened (without F4) ≡ true = open-grows s (and_parts (not raw) (opened standard) both).1 in
      simp (complete-of (without F4) (simp tag), may))

-- ---- blocks
module _ (i : ℕ) (l : Line) (ls : List Line) where
  -- the answer from the kind
  abbrev pub foundOf : Rules → ℕ → Found
  foundOf ρ n = blockFound ρ n i l ls (extentOf ρ n l ls)

  abbrev pub byKind : Rules → ℕ → BlockAnswer
  byKind ρ n = choose (eqb n 0) (λ _. noBlock) (λ _. foundBlock (foundOf ρ n))

  pub by-kind : (ρ : Rules) (n : ℕ) → kindOf ρ l ≡ n → blockOf ρ i (l ∷ ls) ≡ byKind ρ n
  unfolding blockOf
  by-kind ρ n e = rw e

  pub by-bit : (ρ : Rules) (b : Bool) → kindOf ρ l ≡ choose b (λ _. 7) (λ _. 0)
      → blockOf ρ i (l ∷ ls) ≡ choose b (λ _. foundBlock (foundOf standard 7)) (λ _. noBlock)
  by-bit ρ true e = by-kind ρ 7 e ∙ ap foundBlock (found-alike ρ standard 7 (other-closer ρ standard 7 refl) i l ls)
  by-bit ρ false e = by-kind ρ 0 e

  -- kinds 1 to 6 without F1 are the standard's
  pub block-without-F1 : (n : ℕ) → ((ρ : Rules) → kindOf ρ l ≡ n) → blockOf (without F1) i (l ∷ ls) ≡ blockOf standard i (l ∷ ls)
  block-without-F1 n e =
      by-kind (without F1) n (e (without F1))
      ∙ ap (λ b. choose (eqb n 0) (λ _. noBlock) (λ _. foundBlock b))
      (found-alike (without F1) standard n (same-closer (without F1) standard refl n) i l ls)
      ∙ sym (by-kind standard n (e standard))
