-- The events of lines by walking over a text. Only contracts inside the crate speak of this; the traces are defined in `rules`.
use Rattle.std.specs.Prelude.{List, [], ◌∷◌, ◌++◌, ℕ, suc, ◌+◌, take, drop}
use Rattle.lexical.specs.Text.{run}
use Rattle.lexical.specs.Byte.{isSpaceOrTab}
use Rattle.lexical.specs.Line.{lineLength}
use Rattle.rules.specs.Block.{indentation}
use Rattle.rules.specs.Trace.{Event, event, pair, pairOf, lineEndingKind, spaceOrTab, htmlTextData, htmlFlowData, textLines, flowLines}
use Rattle.rules.proofs.Cut.{behind, lineFrom}
use Rattle.records.specs.Answer.{enterNumber, wholeOf, dataOf, formNumber}
use Rattle.records.specs.declared.event.Form.{Form}
use Rattle.records.specs.declared.event.Form.TheVariants.{Text, Flow}
use Rattle.trace.specs.declared.piece.Piece.{Piece}
use Rattle.trace.specs.Writing.{endedBytes}

-- where the line at i of s ends
abbrev pub firstTo : List ℕ → ℕ → ℕ
firstTo s i = i + lineLength (drop i s)

-- of the line at i: leading spaces or tabs, and the data; in a block the data of a line that has bytes
abbrev pub dataFrom : List ℕ → ℕ → ℕ
dataFrom s i = i + run isSpaceOrTab (drop i s)

unfoldable pub dataEvents : Form → List ℕ → ℕ → List Event
dataEvents Text s i = pairOf spaceOrTab i (dataFrom s i) ++ pair htmlTextData (dataFrom s i) (firstTo s i)
dataEvents Flow s i = pairOf htmlFlowData i (firstTo s i)

-- of the ending at i and the line behind it
unfoldable pub lineEvents : Form → List ℕ → ℕ → List Event
lineEvents form s i = pair lineEndingKind i (lineFrom s i) ++ dataEvents form s (lineFrom s i)

-- of all lines behind a content that ends at i
unfoldable pub restEvents : Form → List ℕ → ℕ → List Event
restEvents Text s i = textLines i (behind (drop i s))
restEvents Flow s i = flowLines i (behind (drop i s))

-- ---- a whole piece from i on; its bytes end where s ends
-- where the data of its first line begins: in a block behind the indentation
abbrev pub leadTo : Form → List ℕ → ℕ → ℕ
leadTo Text s i = i
leadTo Flow s i = i + indentation (drop i s)

unfoldable pub pieceEvents : Form → List ℕ → ℕ → ℕ → List Event
pieceEvents form s i exit =
    event (enterNumber (wholeOf form)) i
    ∷ (pairOf (enterNumber (dataOf form)) i (leadTo form s i)
    ++ (pair (enterNumber (dataOf form)) (leadTo form s i) (firstTo s i)
    ++ (restEvents form s (firstTo s i) ++ (event (suc (enterNumber (wholeOf form))) exit ∷ []))))

-- the trace of a piece of a text
unfoldable pub pieceTrace : List ℕ → Piece → List ℕ
pieceTrace text p = endedBytes text (pieceEvents p.form (take p.stop text) p.index p.exit) (formNumber p.form) p.stop p.value
