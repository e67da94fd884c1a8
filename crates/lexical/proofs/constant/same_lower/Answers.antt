use Rattle.std.proofs.Common.{eqb, sym, ◌∙◌, rules, tests, ne_eqb}
use Rattle.std.proofs.lemmas.Iterator.Consumers.{YieldsList-at}
use Rattle.std.proofs.lemmas.Iterator.{YieldsList-from_slice, YieldsList-from_zip}
use Rattle.std.proofs.lemmas.Iterator.Search.{all_from_yields_List}
use lib.ListN.{length-map}
use Rattle.lexical.specs.Byte.{lower}
use Rattle.lexical.proofs.Same.{same-unlike, same-zip}
use Rattle.lexical.proofs.constant.same_lower.Goals as goal

pub returns-then-name-part : goal.returns-then-name-part
returns-then-name-part c = let a = c.args in
    all_from_yields_List (λ p. eqb (lower p.0) p.1) c.all.new.self _ _ c.all.ensures.ran
    (YieldsList-from_zip (YieldsList-at c.zip.ensures.first (YieldsList-from_slice a.name.now c.iter.ensures.rest)) (YieldsList-at c.zip.ensures.second (YieldsList-from_slice a.part.now c.iter-then-name-part.ensures.rest)))
    (λ x b q k. search (rules, tests))
    ∙ same-zip lower a.name.now a.part.now c.if-name-part.true

pub returns-else-name-part : goal.returns-else-name-part
returns-else-name-part c = let a = c.args in
    ne_eqb _ _ c.if-name-part.false ∙ sym (same-unlike _ _ (λ e. c.if-name-part.false (sym (length-map a.name.now lower) ∙ e)))
