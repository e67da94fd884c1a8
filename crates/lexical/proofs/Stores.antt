-- Laws of bytes stored one behind the other in a buffer: stores behind stores, the whole buffer afterwards, a part that is copied over, and a loop that copies.
use Rattle.std.proofs.Common.{◌≡◌, ℕ, suc, ◌+◌, ◌-◌, ◌<◌, ◌≤◌, List, [], ◌∷◌, ◌++◌, length, get_or, take, drop, set, sym, refl, ap, ◌∙◌, zero-add, add-one, arith, take_all, append_assoc}
use Rattle.std.proofs.lemmas.List.{drop_all, drop_more}
use lib.Seq.{sets, length-sets, sets-eq}
use borrow.Rule.Slice.PartMut.{put_mid, post_of, Post-is}
use Rattle.lexical.specs.Buffer.{stored, Written}

-- bytes that are put in the place of others
pub is-sets : (l : List ℕ) (i : ℕ) (bs : List ℕ) → stored l i bs ≡ sets l i bs
unfolding stored
is-sets l i [] = refl
is-sets l i (x ∷ bs) = is-sets (set l i x) (suc i) bs

-- a byte
pub single : (l : List ℕ) (i x : ℕ) → set l i x ≡ stored l i (x ∷ [])
unfolding stored
single l i x = refl

-- a byte, and then others behind it
pub second : (l : List ℕ) (i x : ℕ) (b : List ℕ) → stored (set l i x) (i + 1) b ≡ stored l i (x ∷ b)
unfolding stored
second l i x b = ap (λ n. stored (set l i x) n b) (add-one i)

-- bytes, and then others behind them
pub stores : (l : List ℕ) (i j : ℕ) (a b : List ℕ) → j ≡ i + length a → stored (stored l i a) j b ≡ stored l i (a ++ b)
unfolding stored
stores l i j [] b e = let z : j ≡ i = omega arith in rw z
stores l i j (x ∷ a) b e = stores (set l i x) (suc i) j a b (omega arith)

-- stored from the front
pub from-front : (bs l : List ℕ) → length bs ≤ length l → stored l 0 bs ≡ bs ++ drop (length bs) l
from-front bs l h = is-sets l 0 bs ∙ (let e = sets-eq bs l 0 (omega arith) in rw (zero-add) at e)

-- copied over a part of the buffer
pub copied : (l : List ℕ) (at : ℕ) (bs part : List ℕ) → at + length bs ≤ length l → part ≡ bs → put_mid at (at + length bs - at) l part ≡ stored l at bs
copied l at bs part h e =
    ap (λ p. take at l ++ (p ++ post_of at (at + length bs - at) l)) e
    ∙ ap (λ r. take at l ++ (bs ++ r)) (Post-is at (at + length bs) l (omega arith))
    ∙ sym (is-sets l at bs ∙ sets-eq bs l at h ∙ append_assoc (take at l) bs (drop (at + length bs) l))

-- ---- a loop that copies a part, at its i-th byte
module _ (l part : List ℕ) (at i : ℕ) where
  pub copy-turn : i < length part → stored (set l (at + i) (get_or part i 0)) (at + (i + 1)) (drop (i + 1) part) ≡ stored l (at + i) (drop i part)
  copy-turn h =
      let p : at + (i + 1) ≡ at + i + 1 = omega arith in
      rw (p, drop_more part i 0 h) (second l (at + i) (get_or part i 0) (drop (i + 1) part))

  pub copy-end : length part ≤ i → stored l (at + i) (drop i part) ≡ l
  unfolding stored
  copy-end h = rw (drop_all i part h)

-- ---- the length stays
pub same : {l m : List ℕ} {i : ℕ} {bs : List ℕ} → Written l i bs m → length m ≡ length l
same {l} {m} {i} {bs} w = ap length (w.is ∙ is-sets l i bs) ∙ length-sets l i bs

-- ---- writings
pub nothing-written : {l : List ℕ} {i : ℕ} → Written l i [] l
unfolding stored
nothing-written = record { is = refl }

-- one writing behind the other
pub then : {l m n : List ℕ} {i j : ℕ} {a b : List ℕ} → j ≡ i + length a → Written l i a m → Written m j b n → Written l i (a ++ b) n
then {l} {m} {n} {i} {j} {a} {b} e v w = record { is = w.is ∙ ap (λ k. stored k j b) v.is ∙ stores l i j a b e }

-- the same bytes by another name
pub written-as : {l m : List ℕ} {i : ℕ} {a : List ℕ} (b : List ℕ) → b ≡ a → Written l i a m → Written l i b m
written-as {l} {m} {i} {a} b e w = record { is = w.is ∙ ap (stored l i) (sym e) }

-- what is written as far as there is room, and has room, is written whole
pub written-whole : {l m : List ℕ} {i : ℕ} (bs : List ℕ) → i + length bs ≤ length l → Written l i (take (length l - i) bs) m → Written l i bs m
written-whole {l} {m} {i} bs h w = written-as bs (sym (take_all (length l - i) bs (omega arith))) w
