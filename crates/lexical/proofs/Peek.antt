-- Asking for a byte at an index: the test is that of the first byte of what is left there.
use Rattle.std.proofs.Common.{◌≡◌, ℕ, Bool, true, false, eqb, ltb, List, Some, None, ap, sym, ◌∙◌, ltb-true, ne_eqb, arith}
use Rattle.std.specs.Option.{option_eq, unwrap_or}
use Rattle.std.specs.declared.option.Option.{Option}
use Rattle.lexical.specs.Text.{none, first}

pub asked : (r : Option ℕ) (s : List ℕ) (b : ℕ) → ltb b none ≡ true → unwrap_or r none ≡ first s → option_eq eqb r (Some b) ≡ eqb (first s) b
asked None s b h e = let l = ltb-true b none h in rw (sym e, ne_eqb none b (λ z. omega arith))
asked (Some x) s b h e = ap (λ y. eqb y b) e

-- by the answer of the test
module _ (r : Option ℕ) (s : List ℕ) (b : ℕ) (t : Bool) (h : ltb b none ≡ true) (e : unwrap_or r none ≡ first s) (w : t ≡ option_eq eqb r (Some b)) where
  pub stands : t ≡ true → eqb (first s) b ≡ true
  stands y = sym (asked r s b h e) ∙ sym w ∙ y

  pub stands-not : t ≡ false → eqb (first s) b ≡ false
  stands-not n = sym (asked r s b h e) ∙ sym w ∙ n
