use Rattle.std.proofs.Common.{not, ◌&&◌, eqb, true, ◌∙◌, rules, tests}
use Rattle.std.proofs.lemmas.Iterator.{YieldsList-from_slice}
use Rattle.std.proofs.lemmas.Iterator.Consumers.{fold_from_yields_List}
use Rattle.lexical.proofs.Run.{folded}
use Rattle.lexical.proofs.line.are_other.Goals as goal

pub returns : goal.returns
returns c = let a = c.args in
    fold_from_yields_List _ (λ other b. other && not (eqb b a.mark)) true _ c.fold.ensures.ran (YieldsList-from_slice a.part.now c.iter.ensures.rest) (λ t x b q k. search (rules, tests))
    ∙ folded (λ b. not (eqb b a.mark)) true a.part.now
