-- What a tag's name opens, by the tests of the code.
use Rattle.std.proofs.Common.{◌≡◌, refl, sym, ◌∙◌, ap, Bool, true, false, ◌&&◌, not, List, ℕ, ◌+◌, ◌-◌, eqb, take, drop, eqb-true}
use Rattle.lexical.specs.Text.{byte, bytes, first, run}
use Rattle.lexical.specs.Byte.{isTagNameByte, isNameBreak}
use Rattle.std.specs.declared.option.Option.{Option}
use Rattle.std.specs.Option.{is_some, unwrap_or}
use Rattle.lexical.specs.Name.{isBlockName, isRawName, unnamed, named, blockPlace, rawPlace}
use Rattle.lexical.proofs.Cases.{split}
use Rattle.lexical.proofs.Names.{is-named, block-place-is, raw-place-is}
use Rattle.rules.specs.Search.{choose, begins}
use Rattle.rules.specs.Block.{nameOf, afterName}
use Rattle.rules.specs.declared.Rules.{Rules}
use Rattle.rules.proofs.NameLaws.{name-cut, after-cut}
use Rattle.rules.proofs.Prefix.{one-first}
use Rattle.flow.specs.OpenMachine.{selfClosingOf, completeOf, tagNameOf}

-- ---- the places that the tables give
named-or : (place : ℕ) → unwrap_or (named place) unnamed ≡ place
named-or place = split (eqb place unnamed) (λ e. rw e (sym (eqb-true place unnamed e))) (λ e. rw e)

pub raw-is : (r : Option ℕ) (n : List ℕ) → r ≡ named (rawPlace n) → isRawName n ≡ is_some r
raw-is r n e = raw-place-is n (rawPlace n) refl ∙ sym (is-named (rawPlace n)) ∙ sym (ap is_some e)

pub block-named : (r : Option ℕ) (n : List ℕ) → r ≡ named (blockPlace n) → unwrap_or r unnamed ≡ blockPlace n
block-named r n e = ap (λ x. unwrap_or x unnamed) e ∙ named-or (blockPlace n)

-- ---- what the name opens
module _ (line : List ℕ) (at end : ℕ) (ends : end ≡ at + run isTagNameByte (drop at line)) where
  abbrev n : List ℕ
  n = nameOf (drop at line)

  abbrev a : List ℕ
  a = afterName (drop at line)

  -- the name as the code cuts it out, and what the tables say of it
  module _ (name : List ℕ) (cut : name ≡ take (end - at) (drop at line)) (r : Option ℕ) where
    is-name : name ≡ n
    is-name = cut ∙ name-cut line at end ends

    module _ (e : r ≡ named (rawPlace name)) where
      pub raw-here : isRawName n ≡ is_some r
      raw-here = sym (ap isRawName is-name) ∙ raw-is r name e

      pub raw-place-here : unwrap_or r unnamed ≡ rawPlace n
      raw-place-here = ap (λ x. unwrap_or x unnamed) e ∙ named-or (rawPlace name) ∙ ap rawPlace is-name

    module _ (e : r ≡ named (blockPlace name)) where
      pub block-at : r ≡ named (blockPlace n)
      block-at = e ∙ ap (λ (m : List ℕ). named (blockPlace m)) is-name

      pub block-here : isBlockName n ≡ is_some r
      block-here = block-place-is n (blockPlace n) refl ∙ sym (is-named (blockPlace n)) ∙ sym (ap is_some block-at)

  module _ (ρ : Rules) (f : ℕ) (closing : Bool) where
    abbrev opens : ℕ
    opens = tagNameOf ρ f closing n a

    break-here : (t : Bool) → isNameBreak (drop end line) ≡ t → isNameBreak a ≡ t
    break-here t h = ap isNameBreak (sym (after-cut line at end ends)) ∙ h

    slash-here : (t : Bool) → eqb (first (drop end line)) (byte "/") ≡ t → begins (bytes "/") a ≡ t
    slash-here t h = one-first (byte "/") a refl ∙ ap (λ (s : List ℕ). eqb (first s) (byte "/")) (sym (after-cut line at end ends)) ∙ h

    pub no-break : isNameBreak (drop end line) ≡ false → opens ≡ 0
    unfolding tagNameOf
    no-break h = rw (break-here false h)

    -- r, s: the name is raw, `/` follows
    module _ (r s : Bool) (brk : isNameBreak (drop end line) ≡ true) (raw : isRawName n ≡ r) (slash : eqb (first (drop end line)) (byte "/") ≡ s) where
      by-tests : opens
          ≡ choose (r && (not closing && not s)) (λ _. 1)
          (λ _. choose (isBlockName n) (λ _. choose s (λ _. selfClosingOf a) (λ _. 6)) (λ _. completeOf ρ f closing r a))
      unfolding tagNameOf
      by-tests = rw (break-here true brk, raw, slash-here s slash)

      pub raw-name : (r && (not closing && not s)) ≡ true → opens ≡ 1
      raw-name h = by-tests ∙ ap (λ t. choose t (λ _. 1) (λ _. choose (isBlockName n) (λ _. choose s (λ _. selfClosingOf a) (λ _. 6)) (λ _. completeOf ρ f closing r a))) h

      pub block-name : (r && (not closing && not s)) ≡ false → isBlockName n ≡ true → opens ≡ choose s (λ _. selfClosingOf (drop end line)) (λ _. 6)
      block-name h b = by-tests ∙ rw (h, b, after-cut line at end ends)

      pub other-name : (r && (not closing && not s)) ≡ false → isBlockName n ≡ false → opens ≡ completeOf ρ f closing r (drop end line)
      other-name h b = by-tests ∙ rw (h, b, after-cut line at end ends)
