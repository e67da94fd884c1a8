-- Bytes and texts. A text is the list of its bytes; most definitions go by a suffix of it, what is left from an index on.
use Rattle.std.specs.Prelude.{ℕ, suc, Bool, true, false, List, [], ◌∷◌}
use Prim.Native.String.{String, [] as nil, ◌∷◌ as cons}
use Prim.Native.Char.{Char, code}

-- the byte of an ASCII character
abbrev pub byte : Char → ℕ
byte c = code c

-- the bytes of a text of ASCII characters
abbrev pub bytes : String → List ℕ
bytes nil = []
bytes (cons c s) = code c ∷ bytes s

-- the first where the test holds, else the second
abbrev pub pick : {A : Type 0} → Bool → A → A → A
pick true a b = a
pick false a b = b

-- no byte: what stands past the end
abbrev pub none : ℕ
none = 256

-- the first byte
abbrev pub first : List ℕ → ℕ
first [] = none
first (x ∷ xs) = x

-- how many bytes of a class stand in front
unfoldable pub run : (ℕ → Bool) → List ℕ → ℕ
run f [] = 0
run f (x ∷ xs) = pick (f x) (suc (run f xs)) 0

-- the most bytes of a bulletin or a text
unfoldable pub limit : ℕ
limit = 1000000
