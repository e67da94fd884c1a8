-- Points: how reading moves them, as in the Rust's tokenizer.rs. A line, a column or a count of readings is a `usize`, whose sums are modulo 2 ^ 64.
use Rattle.std.specs.Prelude.{ℕ, zero, suc, ◌+◌, ◌-◌, ◌%◌, ◌^◌, List, [], ◌∷◌, Option, Some, None, ◌==◌}
use Rattle.lexical.specs.Text.{byte, pick, first}
use Rattle.lexical.specs.Line.{endsLine}
use Rattle.lexical.specs.declared.event.Point.{Point}
use Rattle.lexical.specs.declared.tokenizer.ByteAction.{ByteAction}
use Rattle.lexical.specs.declared.tokenizer.ByteAction.TheVariants.{Normal, Ignore, Insert}

abbrev pub plus : ℕ → ℕ → ℕ
plus a b = (a + b) % 2 ^ 64

abbrev pub point : ℕ → ℕ → ℕ → ℕ → Point
point l c i v = record { line = l; column = c; index = i; vs = v }

-- where a text begins: line 1, column 1
abbrev pub start : Point
start = point 1 1 0 0

-- a tab at column c, counted from 1, is read 4 - ((c - 1) mod 4) times
unfoldable pub tabReadings : ℕ → ℕ
tabReadings c = 4 - (c - 1) % 4

-- first as tab, then as spaces
unfoldable pub tabRead : ℕ → ℕ
tabRead vs = pick (vs == 0) (byte "\t") (byte " ")

-- what becomes of the byte at a point: its last reading, with what is read; an earlier one, after which others follow; it is skipped; there is none
pub data Action : Type 0 where
  lastReading : ℕ → Action
  earlierReading : ℕ → Action
  skipped : Action
  noByte : Action

-- by the cases of the code's answer
abbrev pub actionOf : Option ByteAction → Action
actionOf (Some (Normal b)) = lastReading b
actionOf (Some Ignore) = skipped
actionOf (Some (Insert b)) = earlierReading b
actionOf None = noByte

-- CR before LF is skipped, a lone CR reads as LF; a tab has as many readings as are left to the next stop
unfoldable pub actionAt : Point → List ℕ → Action
actionAt p [] = noByte
actionAt p (x ∷ xs) =
    pick (x == (byte "\r")) (pick (first xs == (byte "\n")) skipped (lastReading (byte "\n")))
    (pick (x == (byte "\t"))
    (pick (tabReadings p.column == 1) (lastReading (tabRead p.vs)) (earlierReading (tabRead p.vs)))
    (lastReading x))

-- past a line ending
abbrev pub nextLine : Point → Point
nextLine p = point (plus p.line 1) 1 (plus p.index 1) 0

-- past a byte that takes n columns
abbrev pub nextByte : Point → ℕ → Point
nextByte p n = point p.line (plus p.column n) (plus p.index 1) 0

-- past the CR of CR LF
abbrev pub skipByte : Point → Point
skipByte p = point p.line p.column (plus p.index 1) p.vs

-- past a reading of a tab that is not its last
abbrev pub nextReading : Point → Point
nextReading p = point p.line (plus p.column 1) p.index (plus p.vs 1)

-- one reading further
unfoldable pub moved : Point → Action → Point
moved p (lastReading b) = pick (b == (byte "\n")) (nextLine p) (nextByte p 1)
moved p (earlierReading b) = nextReading p
moved p skipped = skipByte p
moved p noByte = p

-- n readings further at the same byte
unfoldable pub readOn : ℕ → Point → List ℕ → Point
readOn zero p s = p
readOn (suc n) p s = readOn n (moved p (actionAt p s)) s

-- how often the first byte of s is read at column c
unfoldable pub readings : ℕ → List ℕ → ℕ
readings c s = pick (first s == (byte "\t")) (tabReadings c) 1

-- past the first byte of s, by all of its readings
unfoldable pub passed : Point → List ℕ → Point
passed p s =
    pick (endsLine s) (nextLine p)
    (pick (first s == (byte "\r")) (skipByte p)
    (pick (first s == (byte "\t")) (nextByte p (tabReadings p.column)) (nextByte p 1)))

-- n bytes further, or at the end
unfoldable pub movedBy : ℕ → Point → List ℕ → Point
movedBy zero p s = p
movedBy (suc n) p [] = p
movedBy (suc n) p (x ∷ xs) = movedBy n (passed p (x ∷ xs)) xs

-- the point at an index of a text
unfoldable pub pointAt : List ℕ → ℕ → Point
pointAt text i = movedBy i start text
