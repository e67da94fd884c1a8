-- Laws of byte classes that both scanners cite: what begins no attribute name.
use Rattle.std.proofs.Common.{◌≡◌, ℕ, Bool, true, false, ◌||◌, eqb, refl}
use Rattle.std.proofs.lemmas.Bool.{or_parts}
use Rattle.lexical.specs.Text.{byte}
use Rattle.lexical.specs.Byte.{isLetter, isDigit, isTagNameByte, isAttributeNameByte, isTagBreak, isNameStart, isValueEnd}
use Rattle.lexical.proofs.Cases.{split, clash, excluded}

module _ (digits : Bool) where
  abbrev starts : ℕ → Bool
  starts b = isNameStart digits b

  -- a byte of no name begins none
  pub name-start-no : (x : ℕ) → isAttributeNameByte x ≡ false → starts x ≡ false
  name-start-no x h =
      let a = (or_parts (isTagNameByte x) (eqb x (byte "_") || (eqb x (byte ".") || eqb x (byte ":"))) h).0 in
      let b = (or_parts (isTagNameByte x) (eqb x (byte "_") || (eqb x (byte ".") || eqb x (byte ":"))) h).1 in
      let d = (or_parts (eqb x (byte "-")) (isDigit x || isLetter x) a).1 in
      let m = (or_parts (eqb x (byte ".")) (eqb x (byte ":")) (or_parts (eqb x (byte "_")) (eqb x (byte ".") || eqb x (byte ":")) b).1).1 in
      simp ((or_parts (isDigit x) (isLetter x) d).0, (or_parts (isDigit x) (isLetter x) d).1, (or_parts (eqb x (byte "_")) (eqb x (byte ".") || eqb x (byte ":")) b).0, m)

  -- a byte that begins a name ends no value, and is no break
  starts-not : (f : ℕ → Bool) (x : ℕ) → f x ≡ true → (starts x ≡ true → f x ≡ false) → starts x ≡ false
  starts-not f x h n = split (starts x) (λ s. clash (f x) h (n s)) (λ s. s)

  pub break-start-no : (x : ℕ) → isTagBreak x ≡ true → starts x ≡ false
  break-start-no x h =
      starts-not isTagBreak x h
      (λ s. simp (excluded starts (byte " ") x refl s, excluded starts (byte "\t") x refl s, excluded starts (byte "\n") x refl s, excluded starts (byte "\r") x refl s, excluded starts (byte "/") x refl s, excluded starts (byte ">") x refl s))

  pub end-start-no : (slash : Bool) (x : ℕ) → isValueEnd slash x ≡ true → starts x ≡ false
  end-start-no slash x h =
      starts-not (isValueEnd slash) x h
      (λ s. simp (excluded starts (byte " ") x refl s, excluded starts (byte "\t") x refl s, excluded starts (byte "\n") x refl s, excluded starts (byte "\r") x refl s, excluded starts (byte "\"") x refl s, excluded starts (byte "'") x refl s, excluded starts (byte "=") x refl s, excluded starts (byte "<") x refl s, excluded starts (byte ">") x refl s, excluded starts (byte "`") x refl s, excluded starts (byte "/") x refl s))
