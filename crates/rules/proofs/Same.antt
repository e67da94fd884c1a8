-- The tests of specs/Rows.antt that tell two answers apart: an answer passes with itself and with no other, so what passes is equal, and what does not is not.
use Rattle.std.proofs.Common.{◌≡◌, refl, sym, ◌∙◌, ap, Bool, true, false, ◌&&◌, ℕ, eqb, eqb-true, eq-eqb}
use Rattle.std.proofs.lemmas.Bool.{and_parts}
use Rattle.lexical.proofs.Cases.{clash}
use Rattle.rules.specs.Scan.{InlineAnswer, foundInline, noInline, refusedInline, Found, found, BlockAnswer, foundBlock, noBlock, refusedBlock}
use Rattle.rules.specs.Rows.{sameBit, sameInline, sameBlock}

pub told-apart : {A : Type 0} (test : A → A → Bool) (a b : A) → test a a ≡ true → test a b ≡ false → ¬ (a ≡ b)
told-apart test a b self h e = clash (test a b) (sym (ap (test a) e) ∙ self) h

bit-self : (b : Bool) → sameBit b b ≡ true
bit-self true = refl
bit-self false = refl

bit-same : (a b : Bool) → sameBit a b ≡ true → a ≡ b
bit-same true b h = sym h
bit-same false true h = h
bit-same false false h = refl

-- ---- inline
pub inline-self : (a : InlineAnswer) → sameInline a a ≡ true
inline-self (foundInline s k) = rw (eq-eqb s s refl, eq-eqb k k refl) refl
inline-self (noInline k) = eq-eqb k k refl
inline-self (refusedInline n k) = rw (eq-eqb n n refl, eq-eqb k k refl) refl

both : (f : ℕ → ℕ → InlineAnswer) (s t k l : ℕ) → (eqb s t && eqb k l) ≡ true → f s k ≡ f t l
both f s t k l h = rw (eqb-true s t (and_parts (eqb s t) (eqb k l) h).0, eqb-true k l (and_parts (eqb s t) (eqb k l) h).1) refl

pub inline-same : (a b : InlineAnswer) → sameInline a b ≡ true → a ≡ b
inline-same (foundInline s k) (foundInline t l) h = both foundInline s t k l h
inline-same (foundInline s k) (noInline l) h = clash false h refl
inline-same (foundInline s k) (refusedInline n l) h = clash false h refl
inline-same (noInline k) (foundInline t l) h = clash false h refl
inline-same (noInline k) (noInline l) h = ap noInline (eqb-true k l h)
inline-same (noInline k) (refusedInline n l) h = clash false h refl
inline-same (refusedInline m k) (foundInline t l) h = clash false h refl
inline-same (refusedInline m k) (noInline l) h = clash false h refl
inline-same (refusedInline m k) (refusedInline n l) h = both refusedInline m n k l h

-- ---- blocks
pub block-self : (a : BlockAnswer) → sameBlock a a ≡ true
block-self (foundBlock b) =
    rw (eq-eqb b.kind b.kind refl, eq-eqb b.name b.name refl, eq-eqb b.stop b.stop refl, bit-self b.closed, eq-eqb b.closer b.closer refl) refl
block-self noBlock = refl
block-self (refusedBlock n) = eq-eqb n n refl

found-same : (a b : Found) → sameBlock (foundBlock a) (foundBlock b) ≡ true → a ≡ b
found-same a b h =
    let kind = eqb a.kind b.kind in
    let name = eqb a.name b.name in
    let stop = eqb a.stop b.stop in
    let closed = sameBit a.closed b.closed in
    let closer = eqb a.closer b.closer in
    let behind-kind = (and_parts kind (name && (stop && (closed && closer))) h).1 in
    let behind-name = (and_parts name (stop && (closed && closer)) behind-kind).1 in
    let behind-stop = (and_parts stop (closed && closer) behind-name).1 in
    fields
    (eqb-true a.kind b.kind (and_parts kind (name && (stop && (closed && closer))) h).0)
    (eqb-true a.name b.name (and_parts name (stop && (closed && closer)) behind-kind).0)
    (eqb-true a.stop b.stop (and_parts stop (closed && closer) behind-name).0)
    (bit-same a.closed b.closed (and_parts closed closer behind-stop).0)
    (eqb-true a.closer b.closer (and_parts closed closer behind-stop).1)
  where
    fields : a.kind ≡ b.kind → a.name ≡ b.name → a.stop ≡ b.stop → a.closed ≡ b.closed → a.closer ≡ b.closer
        → found a.kind a.name a.stop a.closed a.closer ≡ found b.kind b.name b.stop b.closed b.closer
    fields k n s c t = rw (k, n, s, c, t) refl

pub block-same : (a b : BlockAnswer) → sameBlock a b ≡ true → a ≡ b
block-same (foundBlock a) (foundBlock b) h = ap foundBlock (found-same a b h)
block-same (foundBlock a) noBlock h = clash false h refl
block-same (foundBlock a) (refusedBlock n) h = clash false h refl
block-same noBlock (foundBlock b) h = clash false h refl
block-same noBlock noBlock h = refl
block-same noBlock (refusedBlock n) h = clash false h refl
block-same (refusedBlock m) (foundBlock b) h = clash false h refl
block-same (refusedBlock m) noBlock h = clash false h refl
block-same (refusedBlock m) (refusedBlock n) h = ap refusedBlock (eqb-true m n h)
