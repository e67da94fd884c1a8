-- Laws of tests: cases on one, its parts, and what a byte's class says of the byte.
use Rattle.std.proofs.Common.{◌≡◌, ℕ, Bool, true, false, ◌&&◌, ◌||◌, T, eqb, refl, ap, ◌∙◌, arith, le-ltb, lt-ltb, eq-eqb, ne_eqb, eqb-true, le-leb}
use Rattle.lexical.specs.Text.{byte}
use Rattle.lexical.specs.Byte.{isLetter, isDigit, isTagNameByte}
use borrow.Author.Tests.{lt-leb}

-- a test of numbers from the fact
pub ruleset tests = (eq-eqb, ne_eqb, le-leb, lt-leb, lt-ltb, le-ltb)

-- both values of a test, each with its equation
pub split : {A : Type 0} (b : Bool) → (b ≡ true → A) → (b ≡ false → A) → A
split true f g = f refl
split false f g = g refl

-- a test has one value
pub clash : {A : Type 0} (b : Bool) → b ≡ true → b ≡ false → A
clash b h e = let z : ◌≡◌ {A = ℕ} 0 1 = cc in absurd (omega arith)

pub and-both : {a b c d : Bool} → a ≡ b → c ≡ d → (a && c) ≡ (b && d)
and-both {b = b} {c = c} e f = ap (λ t. t && c) e ∙ ap (λ t. b && t) f

-- a test that computes to true
pub holds : (b : Bool) → b ≡ true → T b
holds true e = tt
holds false e = let z : ◌≡◌ {A = ℕ} 0 1 = cc in absurd (omega arith)

pub passes : (b : Bool) → T b → b ≡ true
passes true t = refl
passes false t = absurd t

-- a byte of a class is none that the class lacks; at a numeral and a class that is written out the first fact is `refl`
pub excluded : (f : ℕ → Bool) (c x : ℕ) → f c ≡ false → f x ≡ true → eqb x c ≡ false
excluded f c x lacks has = split (eqb x c) (λ h. let z : f c ≡ true = rw (eqb-true x c h) at has in cc) (λ h. h)

-- a letter belongs to a tag name
pub letter-byte : (x : ℕ) → isLetter x ≡ true → isTagNameByte x ≡ true
letter-byte x h = split (eqb x (byte "-")) (λ a. simp a) (λ a. split (isDigit x) (λ b. simp (a, b)) (λ b. simp (a, b, h)))
