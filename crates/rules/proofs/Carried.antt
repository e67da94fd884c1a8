-- A line that opens kind 1 or 6 has a raw or a block name behind `<` or `</`, and that is the name which it carries: where `/` follows `<`, none stands there.
use Rattle.std.proofs.Common.{◌≡◌, refl, Bool, true, false, ◌&&◌, ◌||◌, List, [], ◌∷◌, ℕ, eqb, leb, drop, eqb-true}
use Rattle.std.proofs.lemmas.Bool.{and_parts}
use Rattle.lexical.specs.Text.{byte, bytes, first}
use Rattle.lexical.specs.Byte.{isLetter}
use Rattle.lexical.specs.Name.{isBlockName, isRawName}
use Rattle.lexical.proofs.Cases.{split, clash}
use Rattle.lexical.proofs.Names.{block-stands, raw-stands}
use Rattle.lexical.proofs.Members.{block-first, raw-first}
use Rattle.rules.specs.Search.{choose, begins}
use Rattle.rules.specs.Lines.{Line}
use Rattle.rules.specs.Block.{nameOf, afterName, nameEnds, startsRaw, basicName, startsBasic, startsComplete, mayStart, kindAt, indentation, kindOf, tagName, lineName, placeOf}
use Rattle.rules.specs.Carried.{CarriesName}
use Rattle.rules.specs.declared.Rules.{Rules}
use Rattle.rules.proofs.NameLaws.{no-name}

-- ---- the condition that holds, by the kind
-- the kind by the tests of its conditions, in their order
abbrev byTests : Bool → Bool → Bool → Bool → Bool → Bool → Bool → ℕ
byTests raw comment instruction declaration cdata basic complete =
    choose raw (λ _. 1)
    (λ _. choose comment (λ _. 2)
    (λ _. choose instruction (λ _. 3)
    (λ _. choose declaration (λ _. 4) (λ _. choose cdata (λ _. 5) (λ _. choose basic (λ _. 6) (λ _. choose complete (λ _. 7) (λ _. 0)))))))

-- kinds 1 and 6 say that their own condition holds
abbrev Told : Bool → Bool → ℕ → Type 0
Told raw basic k = (k ≡ 1 → raw ≡ true) × (k ≡ 6 → basic ≡ true)

told : (a b c d e f g : Bool) → Told a f (byTests a b c d e f g)
told true b c d e f g = (λ h. refl, λ h. cc)
told false true c d e f g = (λ h. cc, λ h. cc)
told false false true d e f g = (λ h. cc, λ h. cc)
told false false false true e f g = (λ h. cc, λ h. cc)
told false false false false true f g = (λ h. cc, λ h. cc)
told false false false false false true g = (λ h. cc, λ h. refl)
told false false false false false false true = (λ h. cc, λ h. cc)
told false false false false false false false = (λ h. cc, λ h. cc)

kind-tells : (ρ : Rules) (f : ℕ) (s : List ℕ) → Told (startsRaw s) (startsBasic s) (kindAt ρ f s)
unfolding kindAt
kind-tells ρ f s =
    told (startsRaw s) (begins (bytes "<!--") s) (begins (bytes "<?") s) (begins (bytes "<!") s && isLetter (first (drop 2 s))) (begins (bytes "<![CDATA[") s) (startsBasic s)
    (startsComplete ρ s && mayStart ρ f)

-- ---- the name, of a line behind its indentation
-- where `/` follows `<`, no letter does
slash-first : (s : List ℕ) → begins (bytes "</") s ≡ true → isLetter (first (drop 1 s)) ≡ false
slash-first [] h = clash false h refl
slash-first (x ∷ []) h = refl
slash-first (x ∷ y ∷ s) h =
    let e = eqb-true y (byte "/") (and_parts (eqb y (byte "/")) true (and_parts (eqb x (byte "<")) (eqb y (byte "/") && true) h).1).0 in rw e

-- so a name of a list whose names begin with a letter is the tag's
module _ (isName : List ℕ → Bool) (letter : (n : List ℕ) → isName n ≡ true → isLetter (first n) ≡ true) (s : List ℕ) where
  behind-mark : isName (nameOf (drop 1 s)) ≡ true → isName (tagName s) ≡ true
  behind-mark h =
      split (begins (bytes "</") s) (λ e. clash (isName (nameOf (drop 1 s))) h (no-name isName letter (drop 1 s) (slash-first s e))) (λ e. rw e h)

  behind-slash : begins (bytes "</") s ≡ true → isName (nameOf (drop 2 s)) ≡ true → isName (tagName s) ≡ true
  behind-slash e h = rw e h

raw-name : (s : List ℕ) → startsRaw s ≡ true → isRawName (tagName s) ≡ true
unfolding startsRaw
raw-name s h =
    behind-mark isRawName raw-first s
    (and_parts (isRawName (nameOf (drop 1 s))) (nameEnds (afterName (drop 1 s))) (and_parts (begins (bytes "<") s) (isRawName (nameOf (drop 1 s)) && nameEnds (afterName (drop 1 s))) h).1).0

block-name : (s : List ℕ) → basicName s ≡ true → isBlockName (nameOf s) ≡ true
block-name s h = (and_parts (isBlockName (nameOf s)) (nameEnds (afterName s) || begins (bytes "/>") (afterName s)) h).0

basic-name : (s : List ℕ) → startsBasic s ≡ true → isBlockName (tagName s) ≡ true
unfolding startsBasic
basic-name s h =
    split (begins (bytes "<") s && basicName (drop 1 s))
    (λ e. behind-mark isBlockName block-first s (block-name (drop 1 s) (and_parts (begins (bytes "<") s) (basicName (drop 1 s)) e).1))
    (λ e.
    let t : (begins (bytes "</") s && basicName (drop 2 s)) ≡ true = rw e at h in
    behind-slash isBlockName block-first s (and_parts (begins (bytes "</") s) (basicName (drop 2 s)) t).0 (block-name (drop 2 s) (and_parts (begins (bytes "</") s) (basicName (drop 2 s)) t).1))

-- ---- the line
module _ (ρ : Rules) (l : Line) where
  abbrev s : List ℕ
  s = drop (indentation l.content) l.content

  -- a kind other than 0 is that behind the indentation
  inside : (k : ℕ) → eqb 0 k ≡ false → kindOf ρ l ≡ k → kindAt ρ l.flag s ≡ k
  unfolding kindOf
  inside k z h =
      split (leb (indentation l.content) 3) (λ e. rw e at h) (λ e. let o : 0 ≡ k = rw e at h in clash (eqb 0 k) (rw (← o) refl) z)

pub carries-name : CarriesName
unfolding placeOf
carries-name = record {
  raw = λ ρ l h. raw-stands (lineName l) (raw-name (s ρ l) ((kind-tells ρ l.flag (s ρ l)).0 (inside ρ l 1 refl h)));
  basic = λ ρ l h. block-stands (lineName l) (basic-name (s ρ l) ((kind-tells ρ l.flag (s ρ l)).1 (inside ρ l 6 refl h)));
}
