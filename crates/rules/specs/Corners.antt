-- Corners that the rows marked (P) in SCOPE leave out: each row refuses a definition that is a little wrong. Proved together by one computed fact.
use Rattle.std.specs.Prelude.{ℕ, ◌+◌, ◌≡◌, refl, Bool, true, false, ◌&&◌, not, List, [], ◌∷◌, ◌++◌, eqb, length}
use Rattle.lexical.specs.Text.{bytes, limit}
use Rattle.lexical.specs.Name.{all, sameBytes}
use Rattle.rules.specs.Reading.{crate, standard}
use Rattle.rules.specs.Refusal.{refusal, tooLong, inlineRefusal, blockRefusal, bulletinRefusal}
use Rattle.rules.specs.Scan.{InlineAnswer, foundInline, noInline, refusedInline, inlineScan, found, BlockAnswer, foundBlock, noBlock, refusedBlock, blockScan}
use Rattle.rules.specs.Withhold.{outside, shown, Shown, shows, refusedShown, written}
use Rattle.rules.specs.Output.{Wrote, wrote, refusedWrite}
use Rattle.rules.specs.Spans.{foundSpans, find, areSpans, asPieces, spansRefusal, show, stretch, withhold}
use Rattle.rules.specs.Filter.{filtered, filter}
use Rattle.rules.specs.declared.Rules.{Rules}
use Rattle.rules.specs.Rows.{sameInline, sameBlock, inlineRow, blockRow, bulletin, noFlags}
use Rattle.rules.specs.Computing.{computing}

-- two answers of withholding are the same
abbrev pub sameAnswer : Shown → Shown → Bool
sameAnswer (shows l n) (shows m o) = eqb l m && eqb n o
sameAnswer (shows l n) (refusedShown k) = false
sameAnswer (refusedShown k) (shows m o) = false
sameAnswer (refusedShown k) (refusedShown j) = eqb k j

-- html_text.rs
unfoldable pub texts : List Bool
texts =
    -- T1: `/` as the first byte of a value
    inlineRow (bytes "<a b=/c>") 0 (foundInline 8 0)
    -- F2 and F5 are not of inline tags
    ∷ inlineRow (bytes "<a 1b>") 0 (noInline 0)
    ∷ inlineRow (bytes "<a b=c=d>") 0 (noInline 0)
    -- a closing tag's name begins with a letter
    ∷ inlineRow (bytes "</1>") 0 (noInline 0)
    -- a CDATA section ends at the first `]]>`
    ∷ inlineRow (bytes "<![CDATA[]>") 0 (noInline 0)
    ∷ inlineRow (bytes "<![CDATA[]]]>") 0 (foundInline 13 0)
    -- T2: the end of the text leaves the letters counted so far; carry 5 has one to come
    ∷ inlineRow (bytes "<![CD") 0 (noInline 2)
    ∷ inlineRow (bytes "<![") 3 (noInline 3)
    ∷ inlineRow (bytes "<![[q]]>") 5 (foundInline 8 0)
    ∷ []

-- html_flow.rs
unfoldable pub blocks : List Bool
blocks =
    -- F1: behind another byte a run of `]` begins anew; an empty one does not close
    blockRow (bytes "<![CDATA[]x]>") (0 ∷ []) (foundBlock (found 5 255 13 false 13))
    ∷ blockRow (bytes "<![CDATA[]x]]>") (0 ∷ []) (foundBlock (found 5 255 14 true 11))
    ∷ blockRow (bytes "<![CDATA[>") (0 ∷ []) (foundBlock (found 5 255 10 false 10))
    -- a raw end tag has its `>` right behind the name
    ∷ blockRow (bytes "<pre>\n</pre x>") (0 ∷ 0 ∷ []) (foundBlock (found 1 0 14 false 14))
    -- a lazy line ends every kind, also where it may interrupt
    ∷ blockRow (bytes "<!--\nx") (0 ∷ 1 ∷ []) (foundBlock (found 2 255 4 false 4))
    ∷ blockRow (bytes "<!--\nx") (0 ∷ 3 ∷ []) (foundBlock (found 2 255 4 false 4))
    ∷ blockRow (bytes "<!--\nx") (0 ∷ 2 ∷ []) (foundBlock (found 2 255 6 false 6))
    -- a tab ends a name
    ∷ blockRow (bytes "<div\tx") (0 ∷ []) (foundBlock (found 6 15 6 false 6))
    ∷ blockRow (bytes "<pre\tx") (0 ∷ []) (foundBlock (found 1 0 6 false 6))
    -- kind 6 in a closing tag, and before `/>`
    ∷ blockRow (bytes "</div>x") (0 ∷ []) (foundBlock (found 6 15 7 false 7))
    ∷ blockRow (bytes "<div/>x") (0 ∷ []) (foundBlock (found 6 15 7 false 7))
    -- a line's own flag
    ∷ sameBlock (blockScan crate (bytes "a\n<a>") (2 ∷ 0 ∷ []) 2) (foundBlock (found 7 255 5 false 5))
    ∷ []

-- SCOPE, Which name it was: which name it was
unfoldable pub names : List Bool
names =
    -- the first and the last but one of the 62, letter case ignored
    blockRow (bytes "<address") (0 ∷ []) (foundBlock (found 6 0 8 false 8))
    ∷ blockRow (bytes "</TRACK/>") (0 ∷ []) (foundBlock (found 6 60 9 false 9))
    -- behind the indentation; the list of kind 1 is another
    ∷ blockRow (bytes " <TextArea>") (0 ∷ []) (foundBlock (found 1 3 11 false 11))
    -- a raw name in a closing tag, and before `/>`, is of kind 7
    ∷ blockRow (bytes "</pre>") (0 ∷ []) (foundBlock (found 7 255 6 false 6))
    ∷ blockRow (bytes "<pre/>") (0 ∷ []) (foundBlock (found 7 255 6 false 6))
    ∷ []

-- SCOPE, Where the closer stands
unfoldable pub closers : List Bool
closers =
    -- it may share bytes with the opening, as these may close on their own line
    blockRow (bytes "<!-->") (0 ∷ []) (foundBlock (found 2 255 5 true 2))
    ∷ blockRow (bytes "<!--->") (0 ∷ []) (foundBlock (found 2 255 6 true 3))
    ∷ blockRow (bytes "  <?>") (0 ∷ []) (foundBlock (found 3 255 5 true 3))
    -- the earliest; its line's own bytes are counted behind the lines before
    ∷ blockRow (bytes "<!A>>") (0 ∷ []) (foundBlock (found 4 255 5 true 3))
    ∷ blockRow (bytes "<!--\r\n\n--->x-->") (0 ∷ 0 ∷ 0 ∷ []) (foundBlock (found 2 255 15 true 8))
    -- a raw end tag's own `<`, whichever raw name it has
    ∷ blockRow (bytes "<script></style></script>") (0 ∷ []) (foundBlock (found 1 1 25 true 8))
    -- F1: an odd run of `]` is passed over; without F1 its last two bytes close
    ∷ blockRow (bytes "<![CDATA[]]]>]]>") (0 ∷ []) (foundBlock (found 5 255 16 true 13))
    ∷ sameBlock (blockScan standard (bytes "<![CDATA[]]]>]]>") (0 ∷ []) 0) (foundBlock (found 5 255 16 true 10))
    -- where a lazy line keeps the closer out, it is the stop
    ∷ blockRow (bytes "<!--\n-->") (0 ∷ 1 ∷ []) (foundBlock (found 2 255 4 false 4))
    ∷ []

-- refusals: the first that applies, down the table
unfoldable pub refusals : List Bool
refusals =
    sameInline (inlineScan crate (bytes "a\n\nb") 5 6) (refusedInline 4 6)
    ∷ sameInline (inlineScan crate (bytes "a\n\nb") 4 6) (refusedInline 5 6)
    ∷ sameInline (inlineScan crate (bytes "a\n\nb") 4 5) (refusedInline 6 5)
    ∷ sameInline (inlineScan crate (bytes "a\n \t\nb") 0 0) (refusedInline 6 0)
    ∷ sameBlock (blockScan crate (bytes "a") (4 ∷ 4 ∷ []) 1) (refusedBlock 2)
    ∷ sameBlock (blockScan crate (bytes "a") (4 ∷ []) 1) (refusedBlock 3)
    ∷ sameBlock (blockScan crate (bytes "a") (3 ∷ []) 1) (refusedBlock 4)
    ∷ sameBlock (blockScan crate (bytes "a") (3 ∷ []) 0) noBlock
    ∷ []

-- withholding: a line behind a block begins a paragraph; 7 comes last, of the list or of the buffer; what is written
unfoldable pub outputs : List Bool
outputs =
    sameBytes (shown crate (bytes "<!--\n-->\na<b>") (0 ∷ 0 ∷ 0 ∷ [])) (bytes "\na")
    ∷ sameAnswer (withhold crate (bytes "a<b>c") (4 ∷ 4 ∷ []) 2 1) (refusedShown 2)
    ∷ sameAnswer (withhold crate (bytes "a<b>c") (4 ∷ []) 2 1) (refusedShown 3)
    ∷ sameAnswer (withhold crate (bytes "a<b>c") (3 ∷ []) 3 1) (refusedShown 7)
    ∷ sameAnswer (withhold crate (bytes "a<b>c") (3 ∷ []) 2 2) (refusedShown 7)
    ∷ sameAnswer (withhold crate (bytes "a<b>c") (3 ∷ []) 3 2) (shows 2 1)
    ∷ sameBytes (written 0 (bytes "ac") (bytes "xyz")) (bytes "acz")
    ∷ sameBytes (written 7 (bytes "ac") (bytes "xyz")) (bytes "xyz")
    ∷ []

-- SCOPE, GitHub's tag filter: two answers of an entry that writes are the same
abbrev pub sameWrote : Wrote → Wrote → Bool
sameWrote (wrote n) (wrote m) = eqb n m
sameWrote (wrote n) (refusedWrite k) = false
sameWrote (refusedWrite k) (wrote m) = false
sameWrote (refusedWrite k) (refusedWrite j) = eqb k j

abbrev pub filterRow : List ℕ → List ℕ → List ℕ → Bool
filterRow text flags output = sameBytes (filtered crate text flags) output

unfoldable pub filters : List Bool
filters =
    -- the example of the GitHub Flavored Markdown Spec, 6.11
    filterRow (bytes "<strong> <title> <style> <em>\n\n<blockquote>\n  <xmp> is disallowed.  <XMP> is also disallowed.\n</blockquote>\n")
    (0 ∷ 0 ∷ 0 ∷ 0 ∷ 0 ∷ 0 ∷ [])
    (bytes "<strong> &lt;title> &lt;style> <em>\n\n<blockquote>\n  &lt;xmp> is disallowed.  &lt;XMP> is also disallowed.\n</blockquote>\n")
    -- the end of the bulletin does not follow a name; a line ending beyond the stop does
    ∷ filterRow (bytes "<script") (0 ∷ []) (bytes "<script")
    ∷ filterRow (bytes "<div>\n<iframe\n\nx") (0 ∷ 0 ∷ 0 ∷ 0 ∷ []) (bytes "<div>\n&lt;iframe\n\nx")
    ∷ filterRow (bytes "<noembed\r\n") (0 ∷ 0 ∷ []) (bytes "<noembed\r\n")
    ∷ filterRow (bytes "<noframes\r\n") (0 ∷ 0 ∷ []) (bytes "&lt;noframes\r\n")
    -- of a block every place counts, of an inline piece the first byte
    ∷ filterRow (bytes "<!-- <xmp> -->") (0 ∷ []) (bytes "<!-- &lt;xmp> -->")
    ∷ filterRow (bytes "a <!-- <xmp> --> <xmp>") (0 ∷ []) (bytes "a <!-- <xmp> --> &lt;xmp>")
    -- `/>` follows a name, `/` alone does not; closing tags; a space, a tab; a longer name
    ∷ filterRow (bytes "<div><xmp/><xmp/ ></XMP ><PlainText\t<xmp-a></xmpa>") (0 ∷ []) (bytes "<div>&lt;xmp/><xmp/ >&lt;/XMP >&lt;PlainText\t<xmp-a></xmpa>")
    -- what is no HTML stays
    ∷ filterRow (bytes "< xmp> <xmp <b> &lt;") (0 ∷ []) (bytes "< xmp> <xmp <b> &lt;")
    -- 7 comes last, by the length of the output
    ∷ sameWrote (filter crate (bytes "a<xmp>") (4 ∷ 4 ∷ []) 1) (refusedWrite 2)
    ∷ sameWrote (filter crate (bytes "a<xmp>") (4 ∷ []) 1) (refusedWrite 3)
    ∷ sameWrote (filter crate (bytes "a<xmp>") (3 ∷ []) 8) (refusedWrite 7)
    ∷ sameWrote (filter crate (bytes "a<xmp>") (3 ∷ []) 9) (wrote 9)
    ∷ []

-- SCOPE, The book's own reading: by the standard, where each of the eight changes makes the readings part
abbrev pub standardBlock : List ℕ → ℕ → BlockAnswer → Bool
standardBlock text flag a = sameBlock (blockScan standard text (flag ∷ []) 0) a

abbrev pub standardInline : List ℕ → ℕ → InlineAnswer → Bool
standardInline text k a = sameInline (inlineScan standard text 0 k) a

unfoldable pub standards : List Bool
standards =
    -- F1 to F6; a raw name in a closing tag is of kind 7 here too
    standardBlock (bytes "<![CDATA[]]]>") 0 (foundBlock (found 5 255 13 true 10))
    ∷ standardBlock (bytes "<a 1b>") 0 noBlock
    ∷ standardBlock (bytes "<pre/>") 0 noBlock
    ∷ standardBlock (bytes "</pre>") 0 (foundBlock (found 7 255 6 false 6))
    ∷ standardBlock (bytes "<a b=c/d>") 0 (foundBlock (found 7 255 9 false 9))
    ∷ standardBlock (bytes "<a b=c=d>") 0 noBlock
    ∷ standardBlock (bytes "<a>") 1 (foundBlock (found 7 255 3 false 3))
    ∷ standardBlock (bytes "<a>") 2 noBlock
    ∷ standardBlock (bytes "<a>") 3 noBlock
    -- T1
    ∷ standardInline (bytes "<a b=c/d>") 0 (foundInline 9 0)
    -- T2: the carry is neither read nor changed, and refused above 5 all the same
    ∷ standardInline (bytes "<![CDx") 0 (noInline 0)
    ∷ standardInline (bytes "<![CDATA[q]]>") 2 (foundInline 13 2)
    ∷ standardInline (bytes "<![ATA[q]]>") 2 (noInline 2)
    ∷ standardInline (bytes "<![CDATA[q]]>") 6 (refusedInline 5 6)
    -- withholding goes by this reading's own pieces
    ∷ sameBytes (shown standard (bytes "a <b c=d/e>\n<pre/>\n<i 1>") (0 ∷ 0 ∷ 0 ∷ [])) (bytes "a \n\n<i 1>")
    ∷ sameAnswer (withhold standard (bytes "a<b c=d/e>") (0 ∷ []) 3 1) (shows 1 1)
    ∷ []

-- SCOPE, Backslash before a tag: `<` behind an odd run of backslashes is text, in both readings
abbrev pub shownRow : Rules → List ℕ → List ℕ → List ℕ → Bool
shownRow ρ text flags output = sameBytes (shown ρ text flags) output

unfoldable pub backslashes : Rules → List Bool
backslashes ρ =
    shownRow ρ (bytes "\\<b>") (0 ∷ []) (bytes "\\<b>")
    ∷ shownRow ρ (bytes "a \\\\<b>c") (0 ∷ []) (bytes "a \\\\c")
    ∷ shownRow ρ (bytes "a \\\\\\<b>c") (0 ∷ []) (bytes "a \\\\\\<b>c")
    -- another byte, or a line ending, breaks the run
    ∷ shownRow ρ (bytes "a \\ <b>c") (0 ∷ []) (bytes "a \\ c")
    ∷ shownRow ρ (bytes "a \\\n<b>c") (0 ∷ 2 ∷ []) (bytes "a \\\nc")
    -- counted back to the last piece, and to the start of the paragraph
    ∷ shownRow ρ (bytes "a <b>\\<i>") (0 ∷ []) (bytes "a \\<i>")
    ∷ shownRow ρ (bytes "a\n\n\\<b>") (0 ∷ 0 ∷ 0 ∷ []) (bytes "a\n\n\\<b>")
    -- a backslash inside a piece; and what stands in a tag that is not tried is tried
    ∷ shownRow ρ (bytes "a <!-- \\--><b>c") (0 ∷ []) (bytes "a c")
    ∷ shownRow ρ (bytes "a <b c=\"\\\">d") (0 ∷ []) (bytes "a d")
    ∷ shownRow ρ (bytes "a \\<b <i>c") (0 ∷ []) (bytes "a \\<b c")
    -- another byte than a backslash escapes nothing
    ∷ shownRow ρ (bytes "a /<b>c") (0 ∷ []) (bytes "a /c")
    -- block openings are untouched, and blocks have no such rule
    ∷ shownRow ρ (bytes "a\\\n<div>\nx") (0 ∷ 2 ∷ 0 ∷ []) (bytes "a\\\n")
    ∷ shownRow ρ (bytes "<div>\\<b>\n\n") (0 ∷ 0 ∷ 0 ∷ []) (bytes "\n\n")
    ∷ shownRow ρ (bytes "\\<div>\nx") (0 ∷ 0 ∷ []) (bytes "\\<div>\nx")
    ∷ []

-- the filter goes by the same pieces
unfoldable pub filteredBackslashes : List Bool
filteredBackslashes =
    filterRow (bytes "a \\<xmp> \\\\<xmp>") (0 ∷ []) (bytes "a \\<xmp> \\\\&lt;xmp>")
    ∷ filterRow (bytes "<div>\\<xmp>") (0 ∷ []) (bytes "<div>\\&lt;xmp>")
    ∷ []

-- SCOPE, Find first, show afterwards: the spans of the added screen
abbrev pub bars : List ℕ
bars = 5 ∷ 15 ∷ 0 ∷ 17 ∷ 26 ∷ 1 ∷ []

unfoldable pub spans : List Bool
spans =
    sameBytes (foundSpans crate bulletin noFlags) bars
    ∷ sameWrote (find crate bulletin noFlags 6) (wrote 2)
    ∷ sameWrote (find crate bulletin noFlags 5) (refusedWrite 7)
    ∷ sameWrote (find crate bulletin (0 ∷ []) 0) (refusedWrite 2)
    ∷ sameBytes (outside 0 (asPieces bars) bulletin) (bytes "door 9\n\n\nok")
    ∷ sameWrote (show bulletin bars 11) (wrote 11)
    ∷ sameWrote (show bulletin bars 10) (refusedWrite 7)
    -- 12 comes before 7
    ∷ sameWrote (show bulletin (5 ∷ 15 ∷ []) 0) (refusedWrite 12)
    ∷ eqb (spansRefusal bulletin bars) 0
    -- touching ones, one over the whole, none
    ∷ areSpans 0 4 (0 ∷ 2 ∷ 1 ∷ 2 ∷ 4 ∷ 0 ∷ [])
    ∷ areSpans 0 4 (0 ∷ 4 ∷ 0 ∷ [])
    ∷ areSpans 0 0 []
    -- not whole
    ∷ not (areSpans 0 4 (0 ∷ 2 ∷ 1 ∷ 2 ∷ 4 ∷ []))
    ∷ not (areSpans 0 4 (0 ∷ []))
    -- out of order, overlapping
    ∷ not (areSpans 0 4 (2 ∷ 4 ∷ 0 ∷ 0 ∷ 2 ∷ 0 ∷ []))
    ∷ not (areSpans 0 4 (0 ∷ 3 ∷ 0 ∷ 2 ∷ 4 ∷ 0 ∷ []))
    -- a stop that is not above the start, past the end, another kind
    ∷ not (areSpans 0 4 (2 ∷ 2 ∷ 0 ∷ []))
    ∷ not (areSpans 0 4 (2 ∷ 5 ∷ 0 ∷ []))
    ∷ not (areSpans 0 4 (2 ∷ 4 ∷ 2 ∷ []))
    -- stretches: before a span, after the last, no more; all of a bulletin; of spans that are refused none
    ∷ sameBytes (stretch (bytes "abcd") (1 ∷ 2 ∷ 0 ∷ []) 0) (bytes "a")
    ∷ sameBytes (stretch (bytes "abcd") (1 ∷ 2 ∷ 0 ∷ []) 1) (bytes "cd")
    ∷ sameBytes (stretch (bytes "abcd") (1 ∷ 2 ∷ 0 ∷ []) 2) []
    ∷ sameBytes (stretch (bytes "abcd") [] 0) (bytes "abcd")
    ∷ sameBytes (stretch (bytes "abcd") (1 ∷ 2 ∷ []) 0) []
    ∷ []

pub corners-hold : all (λ b. b) (texts ++ (blocks ++ (names ++ (closers ++ (refusals ++ (outputs ++ (filters ++ (standards ++ (backslashes crate ++ (backslashes standard ++ (filteredBackslashes ++ spans))))))))))) ≡ true
unfolding computing texts blocks names closers refusals outputs filters standards backslashes filteredBackslashes spans
corners-hold = refl

-- 1 comes before all others, from the first byte over the limit on
pub over-limit : (s flags : List ℕ) (i k : ℕ) → length s ≡ limit + 1 → inlineRefusal s i k ∷ blockRefusal s flags i ∷ bulletinRefusal s flags ∷ [] ≡ 1 ∷ 1 ∷ 1 ∷ []
unfolding computing
over-limit s flags i k e = rw e

pub at-limit : (s : List ℕ) → length s ≡ limit → refusal (tooLong s ∷ []) ≡ 0
unfolding computing
at-limit s e = rw e
