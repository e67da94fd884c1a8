-- Laws of lines laid one behind the other: their flags, how many bytes they have, and where the content of each ends.
use Rattle.std.proofs.Common.{◌≡◌, refl, sym, ◌∙◌, ap, Bool, true, false, List, [], ◌∷◌, ◌++◌, ℕ, zero, suc, ◌+◌, ◌<◌, ◌≤◌, arith, eqb, length, get_or, take, drop, drop-drop}
use Rattle.lexical.specs.Text.{byte}
use Rattle.lexical.specs.Line.{lineEnding, lineLength}
use Rattle.lexical.proofs.Cases.{split}
use Rattle.rules.specs.Lines.{Line, line, push, cutLines, flagged, linesOf}
use Rattle.rules.specs.Block.{inLast, stopAfter}
use Rattle.rules.proofs.Cut.{behind, behind-one, cut-first, lineFrom, lineTo}

-- ---- flags
pub no-flags : (ls : List Line) → flagged [] ls ≡ ls
unfolding flagged
no-flags [] = refl
no-flags (l ∷ ls) = refl

-- the first line has the first flag, or 0
pub flag-first : (fs e c : List ℕ) (ls : List Line) → flagged fs (line 0 e c ∷ ls) ≡ line (get_or fs 0 0) e c ∷ flagged (drop 1 fs) ls
unfolding flagged
flag-first [] e c ls = ap (λ t. line 0 e c ∷ t) (sym (no-flags ls))
flag-first (f ∷ fs) e c ls = refl

-- ---- the lines of a text at an index
-- the content of the line that begins at an index
abbrev pub contentFrom : List ℕ → ℕ → List ℕ
contentFrom text from = take (lineLength (drop from text)) (drop from text)

module _ (text flags : List ℕ) where
  -- a line and the lines behind it
  pub first-line : (i n : ℕ)
      → linesOf (drop n flags) (drop i text) ≡ line (get_or (drop n flags) 0 0) [] (contentFrom text i) ∷ flagged (drop 1 (drop n flags)) (behind (drop (i + lineLength (drop i text)) text))
  unfolding linesOf
  first-line i n =
      ap (flagged (drop n flags)) (cut-first [] (drop i text))
      ∙ flag-first (drop n flags) [] (contentFrom text i) (behind (drop (lineLength (drop i text)) (drop i text)))
      ∙ ap (λ t. line (get_or (drop n flags) 0 0) [] (contentFrom text i) ∷ flagged (drop 1 (drop n flags)) (behind t)) (drop-drop (lineLength (drop i text)) i text)

  -- the lines behind an ending
  abbrev pub leadAt : ℕ → List ℕ
  leadAt e = take (lineEnding (drop e text)) (drop e text)

  pub next-lines : (e n : ℕ) → (lineEnding (drop e text) ≡ 0 → ⊥)
      → flagged (drop n flags) (behind (drop e text)) ≡ line (get_or (drop n flags) 0 0) (leadAt e) (contentFrom text (lineFrom text e)) ∷ flagged (drop 1 (drop n flags)) (behind (drop (lineTo text e) text))
  next-lines e n h =
      ap (flagged (drop n flags)) (behind-one text e h)
      ∙ flag-first (drop n flags) (leadAt e) (contentFrom text (lineFrom text e)) (behind (drop (lineTo text e) text))

-- ---- how many bytes lines have, with the endings that lead to them
abbrev pub sizes : List Line → ℕ
sizes [] = 0
sizes (l ∷ ls) = length l.lead + length l.content + sizes ls

pub sizes-append : (a b : List Line) → sizes (a ++ b) ≡ sizes a + sizes b
sizes-append [] b = omega arith
sizes-append (l ∷ a) b = let e = sizes-append a b in omega arith

pub flagged-size : (fs : List ℕ) (a : List Line) → sizes (flagged fs a) ≡ sizes a
unfolding flagged
flagged-size fs [] = refl
flagged-size [] (l ∷ ls) = refl
flagged-size (f ∷ fs) (l ∷ ls) = ap (λ (n : ℕ). length l.lead + length l.content + n) (flagged-size fs ls)

-- there is always a line
pub push-length : (x : ℕ) (ls : List Line) → length (push x ls) ≡ length ls
push-length x [] = refl
push-length x (l ∷ ls) = refl

pub some-lines : (cr : Bool) (e s : List ℕ) → 0 < length (cutLines cr e s)
unfolding cutLines
some-lines cr e [] = omega arith
some-lines cr e (x ∷ xs) =
    split (eqb x (byte "\n"))
    (λ h. split cr (λ r. simp (h, r) (some-lines false (byte "\r" ∷ byte "\n" ∷ []) xs)) (λ r. simp (h, r) (omega arith)))
    (λ h. split (eqb x (byte "\r")) (λ r. simp (h, r) (omega arith)) (λ r. simp (h, r) (let l = some-lines false e xs in omega (arith, push-length x (cutLines false e xs)))))

push-size : (x : ℕ) (ls : List Line) → 0 < length ls → sizes (push x ls) ≡ suc (sizes ls)
push-size x [] h = absurd (omega arith)
push-size x (l ∷ ls) h = omega arith

-- behind an ending, and behind a CR
cut-sizes : (s : List ℕ) → ((e : List ℕ) → sizes (cutLines false e s) ≡ length e + length s) × (sizes (cutLines true (byte "\r" ∷ []) s) ≡ 1 + length s)
unfolding cutLines
cut-sizes [] = (λ e. omega arith, refl)
cut-sizes (x ∷ xs) = (
  λ e. split (eqb x (byte "\n"))
      (λ h. simp h (let l = (cut-sizes xs).0 (byte "\n" ∷ []) in omega arith))
      (λ h. split (eqb x (byte "\r"))
      (λ r. simp (h, r) (let l = (cut-sizes xs).1 in omega arith))
      (λ r. simp (h, r) (let l = (cut-sizes xs).0 e in omega (arith, push-size x (cutLines false e xs) (some-lines false e xs))))),
  split (eqb x (byte "\n"))
      (λ h. simp h (let l = (cut-sizes xs).0 (byte "\r" ∷ byte "\n" ∷ []) in omega arith))
      (λ h. split (eqb x (byte "\r"))
      (λ r. simp (h, r) (let l = (cut-sizes xs).1 in omega arith))
      (λ r. simp (h, r) (let l = (cut-sizes xs).0 (byte "\r" ∷ []) in omega (arith, push-size x (cutLines false (byte "\r" ∷ []) xs) (some-lines false (byte "\r" ∷ []) xs))))),
)

-- the lines of a text have its bytes
pub cut-size : (text : List ℕ) → sizes (cutLines false [] text) ≡ length text
cut-size text = (cut-sizes text).0 [] ∙ omega arith

pub lines-size : (flags text : List ℕ) → sizes (linesOf flags text) ≡ length text
unfolding linesOf
lines-size flags text = flagged-size flags (cutLines false [] text) ∙ cut-size text

-- ---- where the content of the last of n lines ends, the line before them ending at stop
unfoldable pub stopFrom : ℕ → ℕ → List Line → ℕ
stopFrom stop zero ls = stop
stopFrom stop (suc n) [] = stop
stopFrom stop (suc n) (l ∷ ls) = stopFrom (stop + length l.lead + length l.content) n ls

pub stop-from : (stop n : ℕ) (ls : List Line) → stop ≤ stopFrom stop n ls
unfolding stopFrom
stop-from stop zero ls = omega arith
stop-from stop (suc n) [] = omega arith
stop-from stop (suc n) (l ∷ ls) = let h = stop-from (stop + length l.lead + length l.content) n ls in omega arith

pub stop-is : (n i : ℕ) (l : Line) (ls : List Line) → stopAfter i (suc n) (l ∷ ls) ≡ stopFrom (i + length l.content) n ls
unfolding inLast stopFrom
stop-is zero i l ls = refl
stop-is (suc n) i l [] = refl
stop-is (suc n) i l (m ∷ ls) = stop-is n (i + length l.content + length m.lead) m ls
