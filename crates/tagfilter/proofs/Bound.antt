-- How long the output can be: no five bytes become more than eight. Only `<` grows, to four bytes, and behind it stand four bytes or more that are no `<`, which stay:
-- a name of three or more, and what follows it. So bytes in front that are no `<` are worth three bytes each that a tag may use up.
use Rattle.std.proofs.Common.{◌≡◌, refl, Bool, true, false, ◌&&◌, not, List, [], ◌∷◌, ℕ, suc, ◌+◌, ◌*◌, ◌-◌, ◌≤◌, arith, eqb, length, drop, length-take, eqb-true}
use Rattle.std.proofs.lemmas.Bool.{and_parts}
use Rattle.lexical.specs.Text.{byte, bytes, run}
use Rattle.lexical.specs.Byte.{isTagNameByte}
use Rattle.lexical.specs.Name.{isDisallowedName}
use Rattle.lexical.proofs.Cases.{split, clash, excluded}
use Rattle.lexical.proofs.Members.{disallowed-length}
use Rattle.rules.specs.Search.{begins}
use Rattle.rules.specs.Block.{nameOf, afterName}
use Rattle.rules.specs.Withhold.{Piece, pieces}
use Rattle.rules.specs.Filter.{endsTagName, disallowedName, isDisallowed, isCounted, replaced, filtered}
use Rattle.rules.specs.declared.Rules.{Rules}
use Rattle.tagfilter.proofs.Parts.{not-a-tag}

abbrev isOther : ℕ → Bool
isOther b = not (eqb b (byte "<"))

-- ---- behind the `<` of a tag
-- no `<` follows a name
not-followed : (x : ℕ) (xs : List ℕ) → endsTagName (x ∷ xs) ≡ true → isOther x ≡ true
not-followed x xs h = split (eqb x (byte "<")) (λ e. let z : endsTagName (byte "<" ∷ xs) ≡ true = rw (eqb-true x (byte "<") e) at h in clash false z refl) (λ e. rw e)

-- a name, and a byte behind it
past-name : (s : List ℕ) → endsTagName (afterName s) ≡ true → suc (run isTagNameByte s) ≤ run isOther s
unfolding run
past-name [] h = clash false h refl
past-name (x ∷ s) h =
    split (isTagNameByte x)
    (λ e.
    let o : isOther x ≡ true = rw (excluded isTagNameByte (byte "<") x refl e) in
    let l = past-name s (rw e at h) in
    rw (e, o) (omega (arith, l)))
    (λ e. let o = not-followed x s (rw e at h) in rw (e, o) (omega arith))

name-others : (s : List ℕ) → disallowedName s ≡ true → 4 ≤ run isOther s
name-others s h =
    let n = disallowed-length (nameOf s) (and_parts (isDisallowedName (nameOf s)) (endsTagName (afterName s)) h).0 in
    let l = past-name s (and_parts (isDisallowedName (nameOf s)) (endsTagName (afterName s)) h).1 in
    omega (arith, n, l, length-take (run isTagNameByte s) s)

slash-others : (s : List ℕ) → begins (bytes "/") s ≡ true → disallowedName (drop 1 s) ≡ true → 4 ≤ run isOther s
unfolding run
slash-others [] h d = clash false h refl
slash-others (x ∷ s) h d =
    let e = eqb-true x (byte "/") (and_parts (eqb x (byte "/")) true h).0 in
    let l = name-others s d in
    rw e (omega (arith, l))

tag-others : (x : ℕ) (s : List ℕ) → isDisallowed (x ∷ s) ≡ true → 4 ≤ run isOther s
unfolding isDisallowed
tag-others x s h =
    split (begins (bytes "<") (x ∷ s) && disallowedName s)
    (λ e. name-others s (and_parts (begins (bytes "<") (x ∷ s)) (disallowedName s) e).1)
    (λ e.
    let g : (begins (bytes "</") (x ∷ s) && disallowedName (drop 1 s)) ≡ true = rw e at h in
    slash-others s (and_parts (eqb x (byte "<")) (begins (bytes "/") s) (and_parts (begins (bytes "</") (x ∷ s)) (disallowedName (drop 1 s)) g).0).1
    (and_parts (begins (bytes "</") (x ∷ s)) (disallowedName (drop 1 s)) g).1)

-- ---- k bytes in front are no `<`
bounded : (i : ℕ) (ps : List Piece) (s : List ℕ) (k : ℕ) → k ≤ run isOther s → 5 * length (replaced i ps s) + 3 * k ≤ 8 * length s
unfolding replaced run
bounded i ps [] k h = omega arith
bounded i ps (x ∷ s) k h =
    split (isCounted i ps && isDisallowed (x ∷ s))
    (λ t.
    let d = (and_parts (isCounted i ps) (isDisallowed (x ∷ s)) t).1 in
    let l = bounded (suc i) ps s 4 (tag-others x s d) in
    split (eqb x (byte "<")) (λ e. let z = rw e at h in rw t (omega (arith, l, z))) (λ e. clash (isDisallowed (x ∷ s)) d (not-a-tag x s e)))
    (λ t.
    split (isOther x)
    (λ o. let g = rw o at h in let l = bounded (suc i) ps s (k - 1) (omega (arith, g)) in rw t (omega (arith, g, l)))
    (λ o. let g = rw o at h in let l = bounded (suc i) ps s 0 (omega arith) in rw t (omega (arith, g, l))))

pub filtered-bound : (ρ : Rules) (text flags : List ℕ) → 5 * length (filtered ρ text flags) ≤ 8 * length text
unfolding filtered
filtered-bound ρ text flags = omega (arith, bounded 0 (pieces ρ text flags) text 0 (omega arith))
