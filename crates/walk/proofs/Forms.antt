-- The form of an opening, test by test in the order of the code.
use Rattle.std.proofs.Common.{◌≡◌, refl, sym, ◌∙◌, Bool, true, false, List, [], ◌∷◌, ◌++◌, ℕ, ◌-◌, arith, eqb, length, take, drop, length-drop, take_all, eqb-true, eq-eqb, ne_eqb}
use Rattle.std.specs.List.{starts_with}
use Rattle.lexical.specs.Text.{bytes}
use Rattle.lexical.proofs.Cases.{split, clash}
use Rattle.rules.specs.Search.{begins}
use Rattle.walk.specs.Closer.{isDeclaration, formOf}
use Rattle.walk.specs.declared.closers.Form.TheVariants.{Comment, Instruction, Declaration, Cdata, Other}

-- what a slice from an index on is
pub rest-is : (text : List ℕ) (i : ℕ) → take (length text - i) (drop i text) ≡ drop i text
rest-is text i = take_all (length text - i) (drop i text) (omega (arith, length-drop i text))

-- ---- std's word for what a text begins with
turned : (x y : ℕ) → eqb x y ≡ eqb y x
turned x y =
    split (eqb x y) (λ h. h ∙ sym (eq-eqb y x (sym (eqb-true x y h))))
    (λ h. h ∙ sym (ne_eqb y x (λ e. clash (eqb x y) (eq-eqb x y (sym e)) h)))

as-begins : (p s : List ℕ) → starts_with eqb s p ≡ begins p s
as-begins [] s = refl
as-begins (x ∷ p) [] = refl
as-begins (x ∷ p) (y ∷ s) = rw (turned x y, as-begins p s) refl

pub begins-by : (p s : List ℕ) {b t : Bool} → b ≡ starts_with eqb s p → b ≡ t → begins p s ≡ t
begins-by p s e h = sym (as-begins p s) ∙ sym e ∙ h

-- a text that does not begin with p does not begin with what p begins
longer : (p q s : List ℕ) → begins p s ≡ false → begins (p ++ q) s ≡ false
longer [] q s h = clash true refl h
longer (x ∷ p) q [] h = refl
longer (x ∷ p) q (y ∷ s) h = split (eqb y x) (λ e. let z : begins p s ≡ false = rw e at h in rw (e, longer p q s z) refl) (λ e. rw e refl)

module _ (s : List ℕ) where
  pub form-instruction : begins (bytes "<?") s ≡ true → formOf s ≡ Instruction
  unfolding formOf
  form-instruction a = rw a refl

  module _ (a : begins (bytes "<?") s ≡ false) where
    pub form-by-two : begins (bytes "<!") s ≡ false → formOf s ≡ Other
    unfolding formOf
    form-by-two b = rw (a, longer (bytes "<!") (bytes "--") s b, longer (bytes "<!") (bytes "[CDATA[") s b, b) refl

    pub form-comment : begins (bytes "<!--") s ≡ true → formOf s ≡ Comment
    unfolding formOf
    form-comment b = rw (a, b) refl

    module _ (b : begins (bytes "<!--") s ≡ false) where
      pub form-cdata : begins (bytes "<![CDATA[") s ≡ true → formOf s ≡ Cdata
      unfolding formOf
      form-cdata d = rw (a, b, d) refl

      module _ (d : begins (bytes "<![CDATA[") s ≡ false) where
        pub form-declaration : isDeclaration s ≡ true → formOf s ≡ Declaration
        unfolding formOf
        form-declaration e = rw (a, b, d, e) refl

        pub form-other : isDeclaration s ≡ false → formOf s ≡ Other
        unfolding formOf
        form-other e = rw (a, b, d, e) refl
