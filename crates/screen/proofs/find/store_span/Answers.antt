use Rattle.std.proofs.Common.{◌∙◌, ap, arith, [], ◌∷◌}
use Rattle.lexical.specs.Text.{limit}
use Rattle.lexical.proofs.Stores.{copied}
use Rattle.screen.specs.Found.{spanNumbers}
use Rattle.screen.proofs.Finding.{byte-is}
use Rattle.screen.proofs.find.store_span.Goals as goal

pub overflow_cast-span : goal.overflow_cast-span
unfolding limit
overflow_cast-span c = let h = c.requires.short.0 in omega (arith, h)

pub overflow_cast-span-2 : goal.overflow_cast-span-2
unfolding limit
overflow_cast-span-2 c = let h = c.requires.short.1 in omega (arith, h)

pub returns : goal.returns
returns c = let a = c.args in
    let numbers = c.copy_from_slice.ensures.after ∙ ap (λ k. a.piece.start ∷ (a.piece.stop ∷ (k ∷ []))) (byte-is a.piece.block) in
    record { is = copied a.list.now a.at (spanNumbers a.piece) _ c.requires.room numbers }
