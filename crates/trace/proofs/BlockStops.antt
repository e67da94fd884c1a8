-- What an answer of the block scan says of the text: where a scan is not refused, the text is within the limit and the index within the text; a stop lies
-- between the index and the end, because the lines from the index on have together the bytes from there on.
use Rattle.std.proofs.Common.{◌≡◌, refl, sym, ◌∙◌, ap, true, not, List, [], ◌∷◌, ℕ, zero, suc, ◌+◌, ◌-◌, ◌<◌, ◌≤◌, arith, eqb, ltb, length, take, drop, length-drop, ltb-true, ltb-false}
use borrow.Author.Tests.{eqb-false, not-false}
use Rattle.lexical.specs.Text.{limit}
use Rattle.lexical.specs.Line.{isLineStart, lineEndings}
use Rattle.lexical.proofs.Cases.{split}
use Rattle.lexical.proofs.Ending.{ends-out}
use Rattle.rules.specs.Reading.{crate as ofCrate}
use Rattle.rules.specs.Refusal.{tooLong, wrongCount, wrongFlag, blockRefusal}
use Rattle.rules.specs.Lines.{Line}
use Rattle.rules.specs.Block.{kindOf, closes, extentOf, inLast, stopAfter}
use Rattle.rules.specs.Scan.{Found, BlockAnswer, foundBlock, noBlock, refusedBlock, blockOf, linesAt, blockAt, blockScan}
use Rattle.rules.specs.declared.Rules.{Rules}
use Rattle.rules.proofs.Refusals.{not-met, given-passes, given-is, refused-by}
use Rattle.trace.proofs.Stops.{Between, Lies}
use Rattle.rules.proofs.LineLaws.{sizes, lines-size, stop-from, stop-is}

-- ---- the bytes of the lines from an index on
size-from : (text flags : List ℕ) (i : ℕ) → sizes (linesAt text flags i) ≡ length text - i
unfolding linesAt
size-from text flags i = lines-size (drop (lineEndings (take i text)) flags) (drop i text) ∙ length-drop i text

-- ---- the stop
-- a block takes the whole of its first line
first-taken : (i n : ℕ) (l : Line) (ls : List Line) → 1 ≤ n → i + length l.content ≤ stopAfter i n (l ∷ ls)
first-taken i zero l ls h = absurd (omega arith)
first-taken i (suc n) l ls h = omega (arith, stop-is n i l ls, stop-from (i + length l.content) n ls)

extent-some : (ρ : Rules) (k : ℕ) (l : Line) (ls : List Line) → 1 ≤ (extentOf ρ k l ls).lines
unfolding extentOf
extent-some ρ k l ls = split (closes ρ k l.content) (λ t. rw t (omega arith)) (λ t. rw t (omega arith))

stop-to : (i n : ℕ) (l : Line) (ls : List Line) → stopAfter i n (l ∷ ls) ≤ i + length l.content + sizes ls
unfolding inLast
stop-to i zero l ls = omega arith
stop-to i (suc zero) l ls = omega arith
stop-to i (suc (suc n)) l [] = omega arith
stop-to i (suc (suc n)) l (m ∷ ls) = let h = stop-to (i + length l.content + length m.lead) (suc n) m ls in omega arith

-- a block whose first line is l, which begins at i
pub record Begun (i stop : ℕ) (l : Line) (ls : List Line) : Type 0 where
  pub opens : kindOf ofCrate l ≡ 0 → ⊥
  pub first : i + length l.content ≤ stop
  pub last : stop ≤ i + length l.content + sizes ls

pub begun : (i : ℕ) (l : Line) (ls : List Line) (b : Found) → blockOf ofCrate i (l ∷ ls) ≡ foundBlock b → Begun i b.stop l ls
unfolding blockOf
begun i l ls b f =
    let k = kindOf ofCrate l in
    let n = (extentOf ofCrate k l ls).lines in
    split (eqb k 0) (λ t. let g = rw t at f in let z : ◌≡◌ {A = ℕ} 0 1 = cc in absurd (omega arith))
    (λ t.
    let g = rw t at f in
    let s : stopAfter i n (l ∷ ls) ≡ b.stop = cc in
    record { opens = eqb-false k 0 t; first = omega (arith, s, first-taken i n l ls (extent-some ofCrate k l ls)); last = omega (arith, s, stop-to i n l ls) })

found-between : (i n : ℕ) (ls : List Line) (b : Found) → sizes ls ≡ n - i → i ≤ n → blockOf ofCrate i ls ≡ foundBlock b → Between i b.stop n
unfolding blockOf
found-between i n [] b e h f = let z : ◌≡◌ {A = ℕ} 0 1 = cc in absurd (omega arith)
found-between i n (l ∷ ls) b e h f = let g = begun i l ls b f in record { from = omega (arith, g.first); to = omega (arith, g.last) }

-- ---- what was checked
start-within : (s : List ℕ) (i : ℕ) → isLineStart s i ≡ true → i ≤ length s
unfolding isLineStart
start-within s zero h = omega arith
start-within s (suc i) h =
    split (ltb i (length s)) (λ t. let l : i < length s = ltb-true i (length s) t in omega arith)
    (λ t. let e = ends-out s i (ltb-false i (length s) t) in let z : ◌≡◌ {A = ℕ} 0 1 = cc in absurd (omega arith))

pub record AdmittedBlock (text : List ℕ) (i : ℕ) : Type 0 where
  pub small : length text ≤ limit
  pub within : i ≤ length text

module _ (text flags : List ℕ) (i : ℕ) where
  pub block-admitted : blockRefusal text flags i ≡ 0 → AdmittedBlock text i
  unfolding blockRefusal
  block-admitted e =
      let front = tooLong text ∷ wrongCount text flags ∷ wrongFlag flags ∷ [] in
      record {
        small = ltb-false limit (length text) (not-met [] _ _ 1 refl refl e);
        within = start-within text i (not-false _ (not-met front [] (not (isLineStart text i)) 4 refl refl e));
      }

  pub block-between : i ≤ length text → (b : Found) → blockAt ofCrate text flags i ≡ foundBlock b → Between i b.stop (length text)
  unfolding blockAt
  block-between h b f = found-between i (length text) (linesAt text flags i) b (size-from text flags i) h f

  -- ---- by the answer
  no-refusal : (ls : List Line) (m : ℕ) → blockOf ofCrate i ls ≡ refusedBlock m → ⊥
  unfolding blockOf
  no-refusal [] m e = let z : ◌≡◌ {A = ℕ} 0 1 = cc in omega arith
  no-refusal (l ∷ ls) m e =
      split (eqb (kindOf ofCrate l) 0)
      (λ t. let g = rw t at e in let z : ◌≡◌ {A = ℕ} 0 1 = cc in omega arith)
      (λ t. let g = rw t at e in let z : ◌≡◌ {A = ℕ} 0 1 = cc in omega arith)

  pub block-refused-number : (n : ℕ) → blockScan ofCrate text flags i ≡ refusedBlock n → blockRefusal text flags i ≡ n
  unfolding blockScan blockAt
  block-refused-number n e =
      let f = refused-by refusedBlock (blockAt ofCrate text flags i) (refusedBlock n) (no-refusal (linesAt text flags i) n) (blockRefusal text flags i) e in cc

  found-no-refusal : (b : Found) (m : ℕ) → refusedBlock m ≡ foundBlock b → ⊥
  found-no-refusal b m e = let z : ◌≡◌ {A = ℕ} 0 1 = cc in omega arith

  none-no-refusal : (m : ℕ) → refusedBlock m ≡ noBlock → ⊥
  none-no-refusal m e = let z : ◌≡◌ {A = ℕ} 0 1 = cc in omega arith

  pub block-found-passes : (b : Found) → blockScan ofCrate text flags i ≡ foundBlock b → blockRefusal text flags i ≡ 0
  unfolding blockScan
  block-found-passes b e =
      given-passes refusedBlock (blockAt ofCrate text flags i) (foundBlock b) (found-no-refusal b) (blockRefusal text flags i) e

  pub block-found-at : (b : Found) → blockScan ofCrate text flags i ≡ foundBlock b → blockAt ofCrate text flags i ≡ foundBlock b
  unfolding blockScan
  block-found-at b e =
      given-is refusedBlock (blockAt ofCrate text flags i) (foundBlock b) (found-no-refusal b) (blockRefusal text flags i) e

  pub block-none-passes : blockScan ofCrate text flags i ≡ noBlock → blockRefusal text flags i ≡ 0
  unfolding blockScan
  block-none-passes e = given-passes refusedBlock (blockAt ofCrate text flags i) noBlock none-no-refusal (blockRefusal text flags i) e

  pub block-found-lies : (b : Found) → blockScan ofCrate text flags i ≡ foundBlock b → Lies text i b.stop
  block-found-lies b e =
      let m = block-admitted (block-found-passes b e) in
      let w = block-between m.within b (block-found-at b e) in
      record { small = m.small; from = w.from; to = w.to }

  -- the reading of the crate is the one with all eight changes
  pub block-scan-is : {ρ : Rules} {a : BlockAnswer} → ρ ≡ ofCrate → a ≡ blockScan ρ text flags i → blockScan ofCrate text flags i ≡ a
  block-scan-is r e = sym (e ∙ ap (λ ρ. blockScan ρ text flags i) r)
