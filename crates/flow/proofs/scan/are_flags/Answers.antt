use Rattle.std.proofs.Common.{◌≡◌, ℕ, Bool, List, [], ◌∷◌, ◌&&◌, ◌∙◌, leb, refl, ap, rules, tests}
use Rattle.std.specs.List.{list_all}
use Rattle.std.proofs.lemmas.Iterator.{YieldsList-from_slice}
use Rattle.std.proofs.lemmas.Iterator.Search.{all_from_yields_List}
use Rattle.lexical.specs.Name.{all}
use Rattle.flow.proofs.scan.are_flags.Goals as goal

-- the library's word for the same test
same-all : (f : ℕ → Bool) (xs : List ℕ) → list_all f xs ≡ all f xs
unfolding all
same-all f [] = refl
same-all f (x ∷ xs) = ap (λ t. f x && t) (same-all f xs)

pub returns : goal.returns
returns c =
    all_from_yields_List (λ f. leb f 3) _ _ c.all.result c.all.ensures.ran (YieldsList-from_slice c.args.flags.now cc) (λ x b q k. search (rules, tests))
    ∙ same-all (λ f. leb f 3) c.args.flags.now
