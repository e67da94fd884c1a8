use Rattle.std.proofs.Common.{sym, ap, ◌∙◌, eqb-true}
use borrow.Author.Tests.{not-false}
use Rattle.flow.specs.Answer.{foundOf}
use Rattle.walk.proofs.BlockLines.{opens}
use Rattle.walk.proofs.bulletin.Bulletin.line_turn.Goals as goal

pub text_line-requires-clause-no_block : goal.text_line-requires-clause-no_block
text_line-requires-clause-no_block c = let a = c.args in let b = a.self in
    eqb-true _ _ (not-false _ (opens b.rules b.text.now b.flags.now a.cursor.next a.cursor.line _ (sym c.block_at.ensures ∙ ap foundOf c.in-None.is)))
