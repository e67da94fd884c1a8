-- A tag that the filter replaces, by the tests of the code. It begins with `<`; where `/` follows, the name stands behind that, since no name begins with `/`.
use Rattle.std.proofs.Common.{◌≡◌, refl, sym, ◌∙◌, ap, Bool, true, false, List, [], ◌∷◌, ℕ, ◌+◌, eqb, length, take, drop, eqb-true}
use Rattle.std.proofs.lemmas.Bool.{and_parts}
use Rattle.std.proofs.Math.Bool.{and-true, or-false}
use lib.Pointwise.{pointwise}
use denote.Ref.{Bor}
use Rattle.std.specs.Prelude.{Option, Some, None, MatchOption}
use Rattle.std.specs.Option.{unwrap_or}
use Rattle.lexical.specs.Text.{byte, bytes, first}
use Rattle.lexical.specs.Byte.{isLetter}
use Rattle.lexical.specs.Name.{isDisallowedName}
use Rattle.lexical.proofs.Cases.{clash}
use Rattle.lexical.proofs.Members.{disallowed-first}
use Rattle.rules.specs.Search.{begins}
use Rattle.rules.specs.Filter.{disallowedName, isDisallowed}
use Rattle.rules.proofs.NameLaws.{no-name}

-- ---- std's word for what a text begins with
abbrev fronted : List ℕ → List ℕ → Bool
fronted p s = pointwise eqb (take (length p) s) p

as-begins : (p s : List ℕ) → fronted p s ≡ begins p s
as-begins [] s = refl
as-begins (x ∷ p) [] = refl
as-begins (x ∷ p) (y ∷ s) = rw (as-begins p s) refl

-- what is left behind it, or not
abbrev pub Stripped : List ℕ → List ℕ → Option (Bor (List ℕ)) → Type 0
Stripped p s r = MatchOption r (fronted p s ≡ false) (λ x. (fronted p s ≡ true) × (x.now ≡ drop (length p) s) × (length x.now + length p ≡ length s))

-- ---- a tag
-- no letter, no name
nameless : (s : List ℕ) → isLetter (first s) ≡ false → disallowedName s ≡ false
nameless s h = rw (no-name isDisallowedName disallowed-first s h)

pub no-tag : (s : List ℕ) → fronted (bytes "<") s ≡ false → isDisallowed s ≡ false
unfolding isDisallowed
no-tag [] h = refl
no-tag (x ∷ s) h = let e = sym (and-true (eqb x (byte "<"))) ∙ h in rw e

slashed : (s : List ℕ) → begins (bytes "/") s ≡ true → isDisallowed (byte "<" ∷ s) ≡ disallowedName (drop 1 s)
unfolding isDisallowed
slashed [] h = clash false h refl
slashed (y ∷ s) h = let e = eqb-true y (byte "/") (and_parts (eqb y (byte "/")) true h).0 in rw (e, nameless (byte "/" ∷ s) refl)

unslashed : (s : List ℕ) → begins (bytes "/") s ≡ false → isDisallowed (byte "<" ∷ s) ≡ disallowedName s
unfolding isDisallowed
unslashed s h = rw h (or-false (disallowedName s))

-- behind `<`, and behind `/` where that follows
behind : (s : List ℕ) (t : Bor (List ℕ)) (r : Option (Bor (List ℕ))) → t.now ≡ s → Stripped (bytes "/") t.now r → isDisallowed (byte "<" ∷ s) ≡ disallowedName (unwrap_or r t).now
behind s t None e h =
    let none = ap (begins (bytes "/")) (sym e) ∙ sym (as-begins (bytes "/") t.now) ∙ h in
    unslashed s none ∙ ap disallowedName (sym e)
behind s t (Some u) e h =
    let some = ap (begins (bytes "/")) (sym e) ∙ sym (as-begins (bytes "/") t.now) ∙ h.0 in
    slashed s some ∙ ap disallowedName (sym (h.1 ∙ ap (drop 1) e))

pub tag-is : (s : List ℕ) (t : Bor (List ℕ)) (r : Option (Bor (List ℕ))) → fronted (bytes "<") s ≡ true → t.now ≡ drop 1 s → Stripped (bytes "/") t.now r
    → isDisallowed s ≡ disallowedName (unwrap_or r t).now
tag-is [] t r h e k = clash false h refl
tag-is (x ∷ s) t r h e k = ap (λ y. isDisallowed (y ∷ s)) (eqb-true x (byte "<") (and_parts (eqb x (byte "<")) true h).0) ∙ behind s t r e k
