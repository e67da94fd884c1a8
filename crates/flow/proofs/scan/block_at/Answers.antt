-- A line whose first byte behind spaces and tabs is not `<` opens no block, as no block begins otherwise. For any other the code reads the first line,
-- and the laws of BlockSteps tell what the rules give by its kind and by whether it closes the block.
use Rattle.lexical.specs.Text.{byte, first, run}
use Rattle.lexical.specs.Byte.{isSpaceOrTab}
use Rattle.lexical.specs.Line.{lineLength}
use Rattle.rules.specs.Lines.{linesOf}
use Rattle.rules.specs.Scan.{noBlock, blockOf}
use Rattle.rules.specs.declared.Rules.{Rules}
use Rattle.flow.specs.Answer.{kindNumber, foundOf}
use Rattle.std.proofs.Common.{false, ◌≡◌, refl, sym, ◌∙◌, ap, List, ℕ, ◌+◌, ◌-◌, arith, eqb, get_or, take, drop, drop-drop}
use Rattle.rules.proofs.LineLaws.{contentFrom}
use Rattle.flow.proofs.OpenSteps.{no-kind}
use Rattle.flow.proofs.BlockSteps.{next-flags, no-block, first-closes, first-on, has-number}
use Rattle.std.proofs.lemmas.Bool.{not-true}
use Rattle.lexical.proofs.Peek.{asked}
use Rattle.flow.proofs.scan.block_at.Goals as goal

-- a line whose first byte behind spaces and tabs is not `<` opens no block
not-marked : (ρ : Rules) (s flags : List ℕ) (i n end : ℕ) → end ≡ i + run isSpaceOrTab (drop i s) → eqb (first (drop end s)) (byte "<") ≡ false
    → blockOf ρ i (linesOf (drop n flags) (drop i s)) ≡ noBlock
not-marked ρ s flags i n end e h =
    let t : List ℕ = drop i s in
    let m : lineLength t ≡ i + lineLength t - i = omega arith in
    let g : drop end s ≡ drop (run isSpaceOrTab t) t = ap (λ j. drop j s) e ∙ sym (drop-drop (run isSpaceOrTab t) i s) in
    no-block ρ s flags i n (i + lineLength t) (get_or (drop n flags) 0 0) (contentFrom s i) refl (ap (λ k. take k t) m) refl
    (no-kind ρ (get_or (drop n flags) 0 0) t (ap (λ x. eqb (first x) (byte "<")) (sym g) ∙ h))

pub returns-then-ne : goal.returns-then-ne
returns-then-ne c = let a = c.args in
    sym (not-marked a.rules a.bulletin.now a.flags.now a.index a.line _ c.space_or_tab_end.ensures
    (sym (asked c.peek.result (drop c.space_or_tab_end.result a.bulletin.now) 60 refl c.peek.ensures) ∙ not-true _ (sym c.ne.ensures ∙ c.if-ne.true)))

pub returns-in_err-opening : goal.returns-in_err-opening
returns-in_err-opening c = let a = c.args in
    ap foundOf c.from_residual.ensures
    ∙ sym (no-block a.rules a.bulletin.now a.flags.now a.index a.line _ _ _ c.line_end-stop.ensures c.from_indices-content.ensures c.flag_at.ensures (sym c.in_err-opening.ensures.kind))

pub returns-then-at-content : goal.returns-then-at-content
returns-then-at-content c = let a = c.args in
    let begun = c.in_ok-opening.ensures in
    c.continuation_after.ensures
    ∙ sym (first-closes a.rules a.bulletin.now a.flags.now a.index a.line _ _ _ c.line_end-stop.ensures c.from_indices-content.ensures c.flag_at.ensures
    (kindNumber c.in_ok-opening.opening.kind) _ (sym begun.kind) begun.name (has-number c.in_ok-opening.opening.kind) _ c.before_closer-at.ensures c.if-at-content.true)

pub returns : goal.returns
returns c = let a = c.args in
    let begun = c.in_ok-opening.ensures in
    c.continuation_start.ensures
    ∙ sym (first-on a.rules a.bulletin.now a.flags.now a.index a.line _ _ _ c.line_end-stop.ensures c.from_indices-content.ensures c.flag_at.ensures
    (kindNumber c.in_ok-opening.opening.kind) _ (sym begun.kind) begun.name (has-number c.in_ok-opening.opening.kind) _ c.before_closer-at.ensures c.if-at-content.false _ (next-flags a.flags.now _ _ c.next_number-next.ensures))
