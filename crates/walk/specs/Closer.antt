-- What is known of the closers ahead in a paragraph, in the order of the code. It need not be believed: of public contracts only those of `at_line` and
-- `next_piece` rest on it, the one in the place that it makes, the other in what it asks of a place, which the iterator over the pieces keeps.
use Rattle.std.specs.Prelude.{◌≡◌, Bool, true, false, ◌&&◌, List, [], ℕ, drop}
use Rattle.lexical.specs.Text.{bytes, first}
use Rattle.lexical.specs.Byte.{isLetter}
use Rattle.rules.specs.Search.{choose, begins, nothing, throughFirst}
use Rattle.walk.specs.declared.closers.Form.{Form}
use Rattle.walk.specs.declared.closers.Form.TheVariants.{Comment, Instruction, Declaration, Cdata, Other}
use Rattle.walk.specs.declared.closers.Closers.{Closers}

abbrev pub isDeclaration : List ℕ → Bool
isDeclaration s = begins (bytes "<!") s && isLetter (first (drop 2 s))

-- the form of the opening in front
unfoldable pub formOf : List ℕ → Form
formOf s =
    choose (begins (bytes "<?") s) (λ _. Instruction)
    (λ _. choose (begins (bytes "<!--") s) (λ _. Comment)
    (λ _. choose (begins (bytes "<![CDATA[") s) (λ _. Cdata) (λ _. choose (isDeclaration s) (λ _. Declaration) (λ _. Other))))

-- a closer of the form may lie ahead
abbrev pub isAhead : Closers → Form → Bool
isAhead c Comment = c.comment
isAhead c Instruction = c.instruction
isAhead c Declaration = c.declaration
isAhead c Cdata = c.cdata
isAhead c Other = true

abbrev pub without : Closers → Form → Closers
without c Comment = record { comment = false; instruction = c.instruction; declaration = c.declaration; cdata = c.cdata }
without c Instruction = record { comment = c.comment; instruction = false; declaration = c.declaration; cdata = c.cdata }
without c Declaration = record { comment = c.comment; instruction = c.instruction; declaration = false; cdata = c.cdata }
without c Cdata = record { comment = c.comment; instruction = c.instruction; declaration = c.declaration; cdata = false }
without c Other = c

abbrev pub closerOf : Form → List ℕ
closerOf Comment = bytes "-->"
closerOf Instruction = bytes "?>"
closerOf Declaration = bytes ">"
closerOf Cdata = bytes "]]>"
closerOf Other = []

abbrev pub allAhead : Closers
allAhead = record { comment = true; instruction = true; declaration = true; cdata = true }

-- What the memory says holds of the text behind its first byte. An instruction's `?` may begin a closer that is not its own: `<?>` finds none, and yet `?>` lies
-- behind its `<`.
pub record Known (c : Closers) (s : List ℕ) : Type 0 where
  pub none-ahead : (f : Form) → isAhead c f ≡ false → throughFirst (closerOf f) (drop 1 s) ≡ nothing
