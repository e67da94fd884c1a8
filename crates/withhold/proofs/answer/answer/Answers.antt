-- There are flags for all lines, since there is at most one line more than there are bytes; and a list for all spans, since there are at most three numbers for each.
use Rattle.std.proofs.Common.{◌≡◌, ℕ, ◌+◌, ◌-◌, ◌*◌, ◌≤◌, List, length, take, drop, replicate, ◌∙◌, ap, arith, lt-ltb, le-ltb, refl}
use Rattle.std.proofs.lemmas.List.{take-replicate}
use Rattle.lexical.specs.Line.{lines}
use Rattle.lexical.proofs.Ending.{lines-most}
use Rattle.rules.specs.Reading.{crate as ofCrate}
use Rattle.rules.specs.Refusal.{bulletinRefusal, outputRefusal}
use Rattle.rules.specs.Withhold.{written}
use Rattle.rules.specs.Spans.{withhold, withholdRefusal}
use Rattle.runs.proofs.Spans.{find-then-show}
use Rattle.withhold.specs.Answer.{most, noFlags, shownText}
use Rattle.withhold.proofs.answer.answer.Goals as goal

flags-are : (text : List ℕ) (n : ℕ) → length text ≤ most → n ≡ lines text → take (n - 0) (drop 0 (replicate (most + 1) 0)) ≡ noFlags text
flags-are text n short e =
    let z : n - 0 ≡ lines text = omega arith in
    ap (λ m. take m (replicate (most + 1) 0)) z ∙ take-replicate (lines text) (most + 1) 0 (omega (arith, lines-most text))

list-suffices : (text : List ℕ) (room : ℕ) → length text ≤ most
    → withholdRefusal ofCrate text (noFlags text) (3 * most) room ≡ outputRefusal (bulletinRefusal text (noFlags text)) room (shownText text)
list-suffices text room short =
    let in-turn = find-then-show ofCrate text (noFlags text) in in-turn.list-enough (3 * most) room (omega (arith, in-turn.most, short))

pub returns-then-bulletin-gt-LIMIT-clause-buffer : goal.returns-then-bulletin-gt-LIMIT-clause-buffer
unfolding written
returns-then-bulletin-gt-LIMIT-clause-buffer c = rw (lt-ltb most (length c.args.bulletin.now) c.if-bulletin-gt-LIMIT.true) refl

pub returns : goal.returns
unfolding withhold
returns c =
    let text = c.args.bulletin.now in
    let short = c.if-bulletin-gt-LIMIT.false in
    let f = c.from_indices.ensures ∙ flags-are text c.count_lines-lines.result short c.count_lines-lines.ensures in
    let all = rw (c.crate_rules.ensures, f) at c.withhold.ensures in
    let l = list-suffices text (length c.args.out.now) short in
    rw (le-ltb most (length text) short, ← l) (record { answer = all.answer; buffer = all.buffer })
