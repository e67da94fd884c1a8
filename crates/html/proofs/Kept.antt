-- The answer of a scan from what the machine reads, with T2 and without.
use Rattle.std.proofs.Common.{◌≡◌, refl, sym, ◌∙◌, ap, Bool, true, false, List, ℕ, ◌≤◌, arith, length, drop}
use Rattle.lexical.specs.Text.{pick}
use Rattle.lexical.proofs.Cases.{split}
use Rattle.rules.specs.Search.{choose}
use Rattle.rules.specs.Inline.{Read, takes, lacks, keeping, rawHtml, readInline}
use Rattle.rules.specs.Scan.{InlineAnswer, inlineAnswer, inlineAt}
use Rattle.rules.specs.declared.Rules.{Rules}
use Rattle.html.specs.TextMachine.{runOf}
use Rattle.html.specs.Answer.{carryingOf}
use Rattle.html.specs.declared.tokenizer.StateName.TheVariants.{Start}
use Rattle.html.proofs.TextMeans.{start-is}

kept-answer : (n k : ℕ) (r : Read) → carryingOf k (inlineAnswer n r) ≡ inlineAnswer n (keeping k r)
kept-answer n k (takes s c) = refl
kept-answer n k (lacks c) = refl

module _ (ρ : Rules) (k : ℕ) (s : List ℕ) where
  read-with : ρ.t2 ≡ true → readInline ρ k s ≡ rawHtml ρ k s
  unfolding readInline
  read-with t = ap (λ b. choose b (λ _. rawHtml ρ k s) (λ _. keeping k (rawHtml ρ 0 s))) t

  read-without : ρ.t2 ≡ false → readInline ρ k s ≡ keeping k (rawHtml ρ 0 s)
  unfolding readInline
  read-without t = ap (λ b. choose b (λ _. rawHtml ρ k s) (λ _. keeping k (rawHtml ρ 0 s))) t

module _ (ρ : Rules) (text : List ℕ) (i k : ℕ) where
  pub with-carry : ρ.t2 ≡ true → k ≤ 5 → inlineAnswer (length text) (runOf ρ Start k (drop i text)) ≡ inlineAt ρ text i k
  unfolding inlineAt
  with-carry t h = ap (inlineAnswer (length text)) (start-is ρ (drop i text) k (omega arith) ∙ sym (read-with ρ k (drop i text) t))

  without-carry : ρ.t2 ≡ false → carryingOf k (inlineAnswer (length text) (runOf ρ Start 0 (drop i text))) ≡ inlineAt ρ text i k
  unfolding inlineAt
  without-carry t =
      kept-answer (length text) k (runOf ρ Start 0 (drop i text))
      ∙ ap (inlineAnswer (length text)) (ap (keeping k) (start-is ρ (drop i text) 0 (omega arith)) ∙ sym (read-without ρ k (drop i text) t))

  -- the answer of the run from a size
  abbrev answer : ℕ → InlineAnswer
  answer size = inlineAnswer (length text) (runOf ρ Start size (drop i text))

  -- with T2 the size is the carry, without it 0; a is what the run from the size answers
  pub either-carry : (size : ℕ) (a : InlineAnswer) → a ≡ answer size → size ≡ pick ρ.t2 k 0 → k ≤ 5 → pick ρ.t2 a (carryingOf k a) ≡ inlineAt ρ text i k
  either-carry size a d e h =
      ap (λ b. pick ρ.t2 b (carryingOf k b)) d
      ∙ split ρ.t2
      (λ t. ap (λ b. pick b (answer size) (carryingOf k (answer size))) t ∙ ap answer (e ∙ ap (λ b. pick b k 0) t) ∙ with-carry t h)
      (λ t. ap (λ b. pick b (answer size) (carryingOf k (answer size))) t ∙ ap (λ n. carryingOf k (answer n)) (e ∙ ap (λ b. pick b k 0) t) ∙ without-carry t)

pub no-carry : (n : ℕ) (b : Bool) → n ≡ pick b n n
no-carry n true = refl
no-carry n false = refl
