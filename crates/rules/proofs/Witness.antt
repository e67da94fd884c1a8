-- The tables of specs/Witness.antt and specs/Counterexamples.antt, said of the statements. A row's tests are the premises of privacy one by one, so that a row
-- which meets them is a swap. A test that tells two answers or two texts apart passes a thing and itself, so what it tells apart is not equal.
use Rattle.std.proofs.Common.{◌≡◌, refl, Bool, true, ◌&&◌, not, List, [], ◌∷◌, ◌++◌, ℕ, eqb, length, eqb-true, eq-eqb}
use Rattle.std.proofs.lemmas.Bool.{and_parts}
use borrow.Author.Tests.{not-true}
use Rattle.lexical.specs.Name.{all, sameBytes}
use Rattle.rules.specs.Reading.{Change, crate, standard, without}
use Rattle.rules.specs.Scan.{InlineAnswer, inlineScan, BlockAnswer, blockScan}
use Rattle.rules.specs.Partings.{Parts, Applies}
use Rattle.rules.specs.Withhold.{pieces, count}
use Rattle.rules.specs.Private.{isPrivate, Swap, in-line, in-block, SameRuns}
use Rattle.rules.specs.Edition.{Passage, inOne, inTwo, text, keepsPrivate, withholdsAll, Edition}
use Rattle.rules.specs.Rows.{sameInline, sameBlock}
use Rattle.rules.specs.Computing.{computing}
use Rattle.rules.specs.Witness.{eight, Place, inText, inBulletin, only, place, agree, each-applies, Row, body, whole, one, two, flags, consists, withheld, meets, swaps, swaps-meet, zeros, isEdition, editions, editions-meet}
use Rattle.rules.specs.Counterexamples.{sameShown, sameCount, Excluded, excluded, rowOf, bodies, brackets, needed, bytes-needed, bare, loose, unheld, enclosing-needed, escaped, withholding-needed, withheldAlone, ending, first-body-needed, counted, count-tells}
use Rattle.rules.specs.declared.Rules.{Rules}
use Rattle.rules.proofs.Same.{told-apart, inline-self, block-self}

-- every entry of a list has a property
abbrev pub Each : {A : Type 0} → (A → Type 0) → List A → Type 0
Each P [] = Unit {0}
Each P (x ∷ xs) = P x × Each P xs

each : {A : Type 0} (P : A → Type 0) (test : A → Bool) → ((x : A) → test x ≡ true → P x) → (xs : List A) → all test xs ≡ true → Each P xs
unfolding all
each P test f [] h = tt
each P test f (x ∷ xs) h = (f x (and_parts (test x) (all test xs) h).0, each P test f xs (and_parts (test x) (all test xs) h).1)

-- ---- privacy
-- where the premises are met there is a swap
abbrev pub SwapOf : Rules → Row → Type 0
SwapOf ρ r = Swap ρ (flags r) (one r) (two r)

pub swap : (ρ : Rules) (r : Row) → meets ρ r ≡ true → SwapOf ρ r
swap ρ (body k b f x y a) h =
    let private = (and_parts (all isPrivate x && all isPrivate y) (withheld ρ (body k b f x y a)) h).0 in
    in-line
    (record { before = b; form = f; body₁ = x; body₂ = y; after = a; private₁ = (and_parts (all isPrivate x) (all isPrivate y) private).0; private₂ = (and_parts (all isPrivate x) (all isPrivate y) private).1; one-is = refl; two-is = refl })
    (and_parts (all isPrivate x && all isPrivate y) (withheld ρ (body k b f x y a)) h).1
swap ρ (whole k b x y a) h =
    let r = whole k b x y a in
    let lines = (and_parts (consists isPrivate r) (withheld ρ r) h).0 in
    let private = (and_parts (eqb (length x) (length y)) (all (all isPrivate) x && all (all isPrivate) y) lines).1 in
    in-block
    (record { before = b; lines₁ = x; lines₂ = y; after = a; same-number = eqb-true (length x) (length y) (and_parts (eqb (length x) (length y)) (all (all isPrivate) x && all (all isPrivate) y) lines).0; private₁ = (and_parts (all (all isPrivate) x) (all (all isPrivate) y) private).0; private₂ = (and_parts (all (all isPrivate) x) (all (all isPrivate) y) private).1; one-is = refl; two-is = refl })
    (and_parts (consists isPrivate r) (withheld ρ r) h).1

pub crate-swaps : Each (SwapOf crate) swaps
crate-swaps = each (SwapOf crate) (meets crate) (swap crate) swaps (and_parts (all (meets crate) swaps) (all (meets standard) swaps) swaps-meet).0

pub standard-swaps : Each (SwapOf standard) swaps
standard-swaps = each (SwapOf standard) (meets standard) (swap standard) swaps (and_parts (all (meets crate) swaps) (all (meets standard) swaps) swaps-meet).1

-- and so there is an edition
abbrev pub EditionOf : Rules → List Passage → Type 0
EditionOf ρ ps = Edition ρ (zeros ps) (text inOne ps) (text inTwo ps)

pub edition-of : (ρ : Rules) (ps : List Passage) → isEdition ρ ps ≡ true → EditionOf ρ ps
edition-of ρ ps h =
    let premises = and_parts (all keepsPrivate ps) (withholdsAll (pieces ρ (text inOne ps) (zeros ps)) [] ps) h in
    record { passages = ps; one-is = refl; two-is = refl; private = premises.0; withheld = premises.1 }

pub crate-editions : Each (EditionOf crate) editions
crate-editions = each (EditionOf crate) (isEdition crate) (edition-of crate) editions (and_parts (all (isEdition crate) editions) _ editions-meet).0

pub standard-editions : Each (EditionOf standard) editions
standard-editions =
    each (EditionOf standard) (isEdition standard) (edition-of standard) editions
    (and_parts (all (isEdition standard) editions) _ (and_parts (all (isEdition crate) editions) _ editions-meet).1).0

-- ---- what a test tells apart is not equal
same-self : (s : List ℕ) → sameBytes s s ≡ true
unfolding sameBytes
same-self [] = refl
same-self (x ∷ xs) = rw (eq-eqb x x refl, same-self xs)

-- the two runs of a row do not show alike
abbrev pub Differ : Rules → Row → Type 0
Differ ρ r = ¬ (SameRuns ρ (flags r) (one r) (two r))

differ : (ρ : Rules) (r : Row) → not (sameShown ρ r) ≡ true → Differ ρ r
differ ρ r h s = told-apart sameBytes _ _ (same-self _) (not-true (sameShown ρ r) h) s.same-bytes

needed-differ : (ρ : Rules) (e : Excluded) → needed ρ e ≡ true → Differ ρ (rowOf e)
needed-differ ρ (excluded b r) h = differ ρ r (and_parts (not (sameShown ρ r)) _ h).0

unheld-differ : (ρ : Rules) (r : Row) → unheld ρ r ≡ true → Differ ρ r
unheld-differ ρ r h = differ ρ r (and_parts (not (sameShown ρ r)) _ h).0

-- with the byte private privacy would be false, and so it would be of lines that run one does not withhold
pub bytes-differ : Each (λ e. Differ crate (rowOf e)) (brackets ++ bodies)
bytes-differ = each _ (needed crate) (needed-differ crate) (brackets ++ bodies) (and_parts (all (needed crate) (brackets ++ bodies)) (all (needed standard) bodies) bytes-needed).0

pub loose-differ : Each (Differ crate) (bare ∷ loose)
loose-differ = each (Differ crate) (unheld crate) (unheld-differ crate) (bare ∷ loose) (and_parts (all (unheld crate) (bare ∷ loose)) _ enclosing-needed).0

pub escaped-differs : Differ crate escaped
escaped-differs = unheld-differ crate escaped (and_parts (unheld crate escaped) (unheld standard escaped) withholding-needed).0

pub first-body-differs : Differ crate ending
first-body-differs = differ crate ending (and_parts (withheldAlone crate ending) _ first-body-needed).1

-- the count alone
pub count-differs : Differ crate counted
count-differs s = told-apart eqb _ _ (eq-eqb (count crate (one counted) (flags counted)) _ refl) (not-true (sameCount crate counted) (and_parts (sameShown crate counted) (not (sameCount crate counted)) count-tells).1) s.same-count

-- ---- the right answer
inline-differ : (a b : InlineAnswer) → not (sameInline a b) ≡ true → ¬ (a ≡ b)
inline-differ a b h = told-apart sameInline a b (inline-self a) (not-true (sameInline a b) h)

block-differ : (a b : BlockAnswer) → not (sameBlock a b) ≡ true → ¬ (a ≡ b)
block-differ a b h = told-apart sameBlock a b (block-self a) (not-true (sameBlock a b) h)

-- a change applies to the scan at a place
abbrev pub AppliesAt : Place → Change → Type 0
AppliesAt (inText text k) c = Applies (λ ρ. inlineScan ρ text 0 k) c
AppliesAt (inBulletin text flags) c = Applies (λ ρ. blockScan ρ text flags 0) c

applies-at : (p : Place) (c : Change) → not (agree p crate (without c)) ≡ true → AppliesAt p c
applies-at (inText text k) c h = inline-differ _ _ h
applies-at (inBulletin text flags) c h = block-differ _ _ h

-- each change applies at its place
pub applies : (c : Change) → AppliesAt (place c) c
unfolding computing
applies c = applies-at (place c) c (eight (λ d. not (agree (place d) crate (without d)) ≡ true) refl refl refl refl refl refl refl refl c)

-- SCOPE, The book's own reading: the two readings part at a place
abbrev pub PartsAt : Place → Type 0
PartsAt (inText text k) = Parts (λ ρ. inlineScan ρ text 0 k)
PartsAt (inBulletin text flags) = Parts (λ ρ. blockScan ρ text flags 0)

parts-at : (p : Place) → not (agree p crate standard) ≡ true → PartsAt p
parts-at (inText text k) h = inline-differ _ _ h
parts-at (inBulletin text flags) h = block-differ _ _ h

-- and so they do at the place of each change
pub parts : (c : Change) → PartsAt (place c)
parts c = parts-at (place c) (and_parts (only c (λ d. not (agree (place c) crate (without d)))) (not (agree (place c) crate standard)) (each-applies c)).1
