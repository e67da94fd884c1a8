-- The rows that SCOPE marks (P), each a test, proved together by one computed fact.
use Rattle.std.specs.Prelude.{ℕ, ◌≡◌, refl, Bool, true, false, ◌&&◌, not, List, [], ◌∷◌, ◌++◌, eqb}
use Rattle.lexical.specs.Text.{bytes}
use Rattle.lexical.specs.Name.{all, sameBytes, isBlockName}
use Rattle.lexical.specs.Point.{tabReadings}
use Rattle.rules.specs.Reading.{crate}
use Rattle.rules.specs.Scan.{InlineAnswer, foundInline, noInline, refusedInline, inlineScan, found, BlockAnswer, foundBlock, noBlock, refusedBlock, blockScan}
use Rattle.rules.specs.Trace.{inlineTrace}
use Rattle.rules.specs.Withhold.{shown, count}
use Rattle.rules.specs.Computing.{computing}

-- two answers are the same
abbrev pub sameInline : InlineAnswer → InlineAnswer → Bool
sameInline (foundInline s k) (foundInline t l) = eqb s t && eqb k l
sameInline (foundInline s k) (noInline l) = false
sameInline (foundInline s k) (refusedInline n l) = false
sameInline (noInline k) (foundInline t l) = false
sameInline (noInline k) (noInline l) = eqb k l
sameInline (noInline k) (refusedInline n l) = false
sameInline (refusedInline m k) (foundInline t l) = false
sameInline (refusedInline m k) (noInline l) = false
sameInline (refusedInline m k) (refusedInline n l) = eqb m n && eqb k l

abbrev pub sameBit : Bool → Bool → Bool
sameBit true b = b
sameBit false b = not b

abbrev pub sameBlock : BlockAnswer → BlockAnswer → Bool
sameBlock (foundBlock a) (foundBlock b) = eqb a.kind b.kind && (eqb a.name b.name && (eqb a.stop b.stop && (sameBit a.closed b.closed && eqb a.closer b.closer)))
sameBlock (foundBlock a) noBlock = false
sameBlock (foundBlock a) (refusedBlock n) = false
sameBlock noBlock (foundBlock b) = false
sameBlock noBlock noBlock = true
sameBlock noBlock (refusedBlock n) = false
sameBlock (refusedBlock m) (foundBlock b) = false
sameBlock (refusedBlock m) noBlock = false
sameBlock (refusedBlock m) (refusedBlock n) = eqb m n

-- a text at index 0
abbrev pub inlineRow : List ℕ → ℕ → InlineAnswer → Bool
inlineRow text k a = sameInline (inlineScan crate text 0 k) a

abbrev pub blockRow : List ℕ → List ℕ → BlockAnswer → Bool
blockRow text flags a = sameBlock (blockScan crate text flags 0) a

-- SCOPE, The added screen
abbrev pub bulletin : List ℕ
bulletin = bytes "door <!-- x -->9\n<div>\nold\n\nok"

abbrev pub noFlags : List ℕ
noFlags = 0 ∷ 0 ∷ 0 ∷ 0 ∷ 0 ∷ []

unfoldable pub rows : List Bool
rows =
    -- tokenizer.rs: a tab at column 1 has four readings, at column 4 one
    eqb (tabReadings 1) 4 ∷
    eqb (tabReadings 4) 1 ∷
    -- constant.rs: `search` is a block name, `source` is not
    isBlockName (bytes "search") ∷
    not (isBlockName (bytes "source")) ∷
    -- html_text.rs
    inlineRow (bytes "<!-->") 0 (foundInline 5 0) ∷
    inlineRow (bytes "<!--->") 0 (foundInline 6 0) ∷
    inlineRow (bytes "<?>") 0 (noInline 0) ∷
    inlineRow (bytes "<a b=c/d>") 0 (noInline 0) ∷
    inlineRow (bytes "<![CDx") 0 (noInline 2) ∷
    inlineRow (bytes "<![ATA[q]]>") 2 (foundInline 11 0) ∷
    -- html_flow.rs
    blockRow (bytes "<![CDATA[]]]>") (0 ∷ []) (foundBlock (found 5 255 13 false 13)) ∷
    blockRow (bytes "<![CDATA[]]]]>") (0 ∷ []) (foundBlock (found 5 255 14 true 11)) ∷
    -- the added screen: two pieces, and what is shown
    sameBytes (shown crate bulletin noFlags) (bytes "door 9\n\n\nok") ∷
    eqb (count crate bulletin noFlags) 2 ∷
    -- the trace of `<b>`
    sameBytes (inlineTrace (bytes "<b>") 0 (inlineScan crate (bytes "<b>") 0 0))
    (7 ∷ 1 ∷ 0 ∷ 0 ∷ 0 ∷ 1 ∷ 0 ∷ 0 ∷ 0 ∷ 0 ∷ 0 ∷ 0 ∷ 0 ∷ 0
    ∷ 9 ∷ 1 ∷ 0 ∷ 0 ∷ 0 ∷ 1 ∷ 0 ∷ 0 ∷ 0 ∷ 0 ∷ 0 ∷ 0 ∷ 0 ∷ 0
    ∷ 10 ∷ 1 ∷ 0 ∷ 0 ∷ 0 ∷ 4 ∷ 0 ∷ 0 ∷ 0 ∷ 3 ∷ 0 ∷ 0 ∷ 0 ∷ 0
    ∷ 8 ∷ 1 ∷ 0 ∷ 0 ∷ 0 ∷ 4 ∷ 0 ∷ 0 ∷ 0 ∷ 3 ∷ 0 ∷ 0 ∷ 0 ∷ 0
    ∷ 13 ∷ 3 ∷ 0 ∷ 0 ∷ 0 ∷ 0 ∷ []) ∷
    []

-- SCOPE, Slips a porter makes, and the indentation of a block
unfoldable pub slips : List Bool
slips =
    -- clearing the carry: `<![CDATA[q]]>` is not found with carry 2
    inlineRow (bytes "<![CDATA[q]]>") 2 (noInline 2) ∷
    -- counting CR in a name: `<div` before CR LF is kind 6
    blockRow (bytes "<div\r\nx") (0 ∷ 0 ∷ []) (foundBlock (found 6 15 7 false 7)) ∷
    -- giving a final LF to kind 6
    blockRow (bytes "<div>\n") (0 ∷ 0 ∷ []) (foundBlock (found 6 15 5 false 5)) ∷
    -- letting `</script` match a longer name
    blockRow (bytes "<pre>\n</scripts>") (0 ∷ 0 ∷ []) (foundBlock (found 1 0 16 false 16)) ∷
    blockRow (bytes "<pre>\n</script>") (0 ∷ 0 ∷ []) (foundBlock (found 1 0 15 true 6)) ∷
    -- three leading spaces may open; four, or a tab, may not
    blockRow (bytes "   <a>") (0 ∷ []) (foundBlock (found 7 255 6 false 6)) ∷
    blockRow (bytes "    <a>") (0 ∷ []) noBlock ∷
    blockRow (bytes "\t<a>") (0 ∷ []) noBlock ∷
    []

pub rows-hold : all (λ b. b) (rows ++ slips) ≡ true
unfolding computing rows slips
rows-hold = refl
