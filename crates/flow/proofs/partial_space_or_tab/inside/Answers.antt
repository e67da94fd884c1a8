use Rattle.std.proofs.Common.{◌≡◌, ℕ, suc, Bool, arith, List, [], ◌∷◌, ◌+◌, ◌∙◌, refl, ap, rules, tests, eqb}
use Rattle.std.specs.List.{prefix_len}
use Rattle.std.proofs.lemmas.Iterator.{YieldsList-from_slice}
use Rattle.std.proofs.lemmas.Iterator.Consumers.{count_from_yields_List}
use Rattle.std.proofs.lemmas.Iterator.Search.{YieldsList-from_take_while}
use Rattle.std.proofs.lemmas.List.Folds.{length-prefix_len}
use Rattle.lexical.specs.Text.{run}
use Rattle.lexical.proofs.Cases.{split}
use Rattle.rules.specs.Block.{indentation}
use Rattle.flow.proofs.Turn.{to-end}
use Rattle.flow.proofs.partial_space_or_tab.inside.Goals as goal

-- the library's word for the same count
same-run : (f : ℕ → Bool) (s : List ℕ) → prefix_len f s ≡ run f s
unfolding run
same-run f [] = refl
same-run f (x ∷ xs) = split (f x) (λ e. let i = same-run f xs in let o : 1 + prefix_len f xs ≡ suc (run f xs) = omega arith in rw e o) (λ e. rw e)

pub returns : goal.returns
returns c =
    let s = c.from_indices.result.now in
    let counted = count_from_yields_List c.take_while.result c.count-spaces.result c.count-spaces.ensures.ran
    (YieldsList-from_take_while _ (λ b. eqb b 32) (YieldsList-from_slice s (cc)) c.take_while.ensures.closure c.take_while.ensures.done (λ x b q k. search (rules, tests))) in
    ap (λ n. c.args.index + n) (counted ∙ length-prefix_len (λ b. eqb b 32) s ∙ same-run (λ b. eqb b 32) s ∙ ap indentation (c.from_indices.ensures ∙ to-end c.args.line.now c.args.index))
