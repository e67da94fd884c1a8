use Rattle.std.proofs.Common.{◌≡◌, ℕ, ◌+◌, Bool, false, eqb, map, get_or, [], sym, ap, ◌∙◌, eq-eqb, eqb-true, arith}
use Rattle.lexical.specs.Byte.{lower}
use Rattle.lexical.specs.Name.{sameBytes, named, cut}
use Rattle.lexical.proofs.Names.{named-place}
use Rattle.lexical.proofs.Lookup.{no-name, up, there, few, place-among, placeAmong, hit, miss, no-more}
use Rattle.lexical.proofs.constant.NameTable.place.Goals as goal

-- no name is the empty one
some : (n : ℕ) (b : Bool) → b ≡ eqb n 0 → b ≡ false → n ≡ 0 → ⊥
some n b e f z = let t = eq-eqb n 0 z in cc

pub returns-then-is_empty : goal.returns-then-is_empty
returns-then-is_empty c = ap named (no-name _ _ _ c.args.self.now.by_letter c.args.name.now (eqb-true _ _ (sym c.is_empty.ensures ∙ c.if-is_empty.true)))

pub loop-place-init : goal.loop-place-init
loop-place-init c = let a = c.args in
    let names = cut a.self.now.names.now a.self.now.offsets.now in
    let same = c.into_iter-place-iterator.ensures.into_iter_gives in
    let goes = c.letter_places-place-items.ensures in
    let name = some _ _ c.is_empty.ensures c.if-is_empty.false in (
      omega (arith, up _ _ _ a.self.now.by_letter a.name.now _ _ goes name, ap (λ r. r.start) same, ap (λ r. r.end) same),
      omega (arith, there _ _ _ a.self.now.by_letter a.name.now _ _ goes name, ap (λ r. r.end) same),
      ap (λ r. placeAmong names (map lower a.name.now) r.start r.end) same ∙ place-among _ _ _ a.self.now.by_letter a.name.now _ _ goes name,
    )

pub returns-then-same_lower : goal.returns-then-same_lower
returns-then-same_lower c = let a = c.args in
    let names = cut a.self.now.names.now a.self.now.offsets.now in
    let n = map lower a.name.now in
    let steps = c.in-Some.ensures.steps in
    let inv = c.loop-place.invariant in
    let it = c.loop-place.place-iterator in
    let is = sym (c.same_lower.ensures ∙ ap (λ p. sameBytes n p) (c.name.ensures ∙ ap (λ k. get_or names k []) steps.1.1)) ∙ c.if-same_lower.true in
    sym (named-place _ (few _ _ _ a.self.now.by_letter c.in-Some.place (omega (arith, steps, inv.0, inv.1))))
    ∙ ap named (steps.1.1 ∙ sym (hit names n it.start it.end (omega (arith, steps)) inv.1 is) ∙ inv.2)

pub loop-place-preserved : goal.loop-place-preserved
loop-place-preserved c = let a = c.args in
    let names = cut a.self.now.names.now a.self.now.offsets.now in
    let n = map lower a.name.now in
    let steps = c.in-Some.ensures.steps in
    let inv = c.loop-place.invariant in
    let it = c.loop-place.place-iterator in
    let is = sym (c.same_lower.ensures ∙ ap (λ p. sameBytes n p) (c.name.ensures ∙ ap (λ k. get_or names k []) steps.1.1)) ∙ c.if-same_lower.false in (
      omega (arith, steps, inv.0),
      omega (arith, steps, inv.1),
      ap (λ i. placeAmong names n i c.next.new.self.end) steps.1.2
          ∙ ap (λ to. placeAmong names n (it.start + 1) to) steps.0
          ∙ miss names n it.start it.end (omega (arith, steps)) inv.1 is
          ∙ inv.2,
    )

pub returns : goal.returns
returns c = let a = c.args in
    let it = c.loop-place.place-iterator in
    ap named (sym (no-more _ (map lower a.name.now) it.start it.end (omega (arith, c.in-None.ensures.steps))) ∙ c.loop-place.invariant.2)
