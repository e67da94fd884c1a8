-- What the program shows: SCOPE, What is read and given, and SCOPE, Long bulletins.
use Rattle.std.specs.Prelude.{ℕ, List, eqb, ltb, length, replicate}
use Rattle.lexical.specs.Line.{lines}
use Rattle.rules.specs.Reading.{crate as ofCrate}
use Rattle.rules.specs.Search.{choose}
use Rattle.rules.specs.Refusal.{bulletinRefusal, outputRefusal}
use Rattle.rules.specs.Withhold.{Shown, shows, refusedShown, shown, count, written}

-- the most bytes of a bulletin on standard input
abbrev pub most : ℕ
most = 16000

-- each line has the flag 0
abbrev pub noFlags : List ℕ → List ℕ
noFlags text = replicate (lines text) 0

-- what is shown
abbrev pub shownText : List ℕ → List ℕ
shownText text = shown ofCrate text (noFlags text)

-- 1 is met first; then what withholding refuses, but for its list of spans: that has room for those of any such bulletin. room is the length of the output buffer
abbrev pub answerRefusal : List ℕ → ℕ → ℕ
answerRefusal text room = choose (ltb most (length text)) (λ _. 1) (λ _. outputRefusal (bulletinRefusal text (noFlags text)) room (shownText text))

abbrev pub answerOf : List ℕ → ℕ → Shown
answerOf text room =
    choose (eqb (answerRefusal text room) 0) (λ _. shows (length (shownText text)) (count ofCrate text (noFlags text))) (λ _. refusedShown (answerRefusal text room))

-- the output buffer afterwards
abbrev pub bufferOf : List ℕ → List ℕ → List ℕ
bufferOf text old = written (answerRefusal text (length old)) (shownText text) old
