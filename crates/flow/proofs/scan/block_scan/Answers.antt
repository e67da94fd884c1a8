-- The checks run down the table of docs/SCOPE.md: those of the bulletin and its flags, which stand in front, and then the index.
use Rattle.lexical.specs.Line.{lines, lineEndings, isLineStart}
use Rattle.rules.specs.Lines.{linesOf}
use Rattle.std.proofs.Common.{◌≡◌, refl, sym, ◌∙◌, ap, true, false, not, List, [], ◌∷◌, ◌++◌, ℕ, ◌-◌, ◌≤◌, arith, take, drop, ne_eqb}
use Rattle.flow.specs.Answer.{blockAnswerOf}
use Rattle.rules.specs.declared.refusal.Refusal.{Refusal}
use Rattle.rules.specs.Refusal.{Check, refusalNumber, refusal, tooLong, wrongCount, wrongFlag, noLineStart, blockRefusal, bulletinRefusal}
use Rattle.rules.specs.Scan.{BlockAnswer, refusedBlock, linesAt, blockOf, blockAt, blockScan}
use Rattle.rules.specs.declared.Rules.{Rules}
use Rattle.rules.proofs.Refusals.{refusal-positive, applies, passes, no-more, refused-front, passed-front, decided, refuses, answers, raised}
use Rattle.flow.proofs.scan.block_scan.Goals as goal

module _ (ρ : Rules) (text flags : List ℕ) (i : ℕ) where
  abbrev answer : BlockAnswer
  answer = blockAt ρ text flags i

  abbrev front : List Check
  front = tooLong text ∷ wrongCount text flags ∷ wrongFlag flags ∷ []

  abbrev checks : List Check
  checks = front ++ (noLineStart text i ∷ [])

  all-checks : blockScan ρ text flags i ≡ decided refusedBlock answer checks
  unfolding blockScan blockRefusal
  all-checks = refl

  refuses-bulletin : (r : Refusal) → refusalNumber r ≡ bulletinRefusal text flags → blockScan ρ text flags i ≡ refusedBlock (refusalNumber r)
  unfolding bulletinRefusal
  refuses-bulletin r e =
      let h : refusalNumber r ≡ 0 → ⊥ = refusal-positive r in
      all-checks ∙ refuses refusedBlock answer checks (refusalNumber r) (ne_eqb (refusalNumber r) 0 h) (refused-front front (noLineStart text i ∷ []) (λ z. h (e ∙ z)) ∙ sym e)

  module _ (e : 0 ≡ bulletinRefusal text flags) where
    fourth : refusal checks ≡ refusal (noLineStart text i ∷ [])
    unfolding bulletinRefusal
    fourth = passed-front front (noLineStart text i ∷ []) refl (sym e)

    refuses-index : not (isLineStart text i) ≡ true → blockScan ρ text flags i ≡ refusedBlock 4
    refuses-index h = all-checks ∙ refuses refusedBlock answer checks 4 refl (fourth ∙ applies (not (isLineStart text i)) 4 [] h)

    refuses-nothing : not (isLineStart text i) ≡ false → blockScan ρ text flags i ≡ answer
    refuses-nothing h = all-checks ∙ answers refusedBlock answer checks (fourth ∙ passes (not (isLineStart text i)) 4 [] h ∙ no-more)

  -- the number of the line at the index
  number-is : (part : List ℕ) (n : ℕ) → part ≡ take (i - 0) (drop 0 text) → n ≡ lines part → n - 1 ≡ lineEndings (take i text)
  unfolding lines
  number-is part n p e =
      let m : i - 0 ≡ i = omega arith in
      let l : lineEndings part ≡ lineEndings (take i text) = ap lineEndings (p ∙ ap (λ t. take t text) m) in
      omega (arith, e, l)

  numbered : (n : ℕ) → n ≡ lineEndings (take i text) → blockOf ρ i (linesOf (drop n flags) (drop i text)) ≡ answer
  unfolding blockAt linesAt
  numbered n e = ap (λ t. blockOf ρ i (linesOf (drop t flags) (drop i text))) e

some-line : (s : List ℕ) (n : ℕ) → n ≡ lines s → 1 ≤ n
unfolding lines
some-line s n e = omega (arith, e)

pub returns-in_err-check_bulletin : goal.returns-in_err-check_bulletin
returns-in_err-check_bulletin c = let a = c.args in
    ap blockAnswerOf (raised c.from_residual.result c.from_residual.ensures.1)
    ∙ sym (refuses-bulletin a.rules a.bulletin.now a.flags.now a.index c.in_err-check_bulletin.field-0.0 c.in_err-check_bulletin.ensures)

pub returns-then-not-is_line_start : goal.returns-then-not-is_line_start
returns-then-not-is_line_start c = let a = c.args in
    sym (refuses-index a.rules a.bulletin.now a.flags.now a.index c.in_ok-check_bulletin.ensures (ap not (sym c.is_line_start.ensures ∙ c.if-not-is_line_start.true)))

pub overflow_sub-line : goal.overflow_sub-line
overflow_sub-line c = some-line _ _ c.count_lines-line.ensures

pub returns : goal.returns
returns c = let a = c.args in
    c.block_at.ensures
    ∙ numbered a.rules a.bulletin.now a.flags.now a.index _ (number-is a.rules a.bulletin.now a.flags.now a.index _ _ c.from_indices.ensures c.count_lines-line.ensures)
    ∙ sym (refuses-nothing a.rules a.bulletin.now a.flags.now a.index c.in_ok-check_bulletin.ensures (ap not (sym c.is_line_start.ensures ∙ c.if-not-is_line_start.false)))
