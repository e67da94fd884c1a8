use Rattle.std.proofs.Common.{refl, sym, ◌∙◌, true, false}
use Rattle.walk.proofs.BlockLines.{opens, found-some}
use Rattle.walk.proofs.Paragraphs.{ends-by}
use Rattle.walk.proofs.bulletin.Bulletin.ends_paragraph.Goals as goal

pub returns-then-is_blank : goal.returns-then-is_blank
returns-then-is_blank c = let b = c.args.self in
    c.if-is_blank.true ∙ sym (ends-by b.rules b.text.now b.flags.now c.args.index c.args.line true _ (sym c.is_blank.ensures ∙ c.if-is_blank.true) refl)

pub returns-else-is_blank : goal.returns-else-is_blank
returns-else-is_blank c = let b = c.args.self in
    c.is_some.ensures ∙ sym (found-some _)
    ∙ sym (ends-by b.rules b.text.now b.flags.now c.args.index c.args.line false _ (sym c.is_blank.ensures ∙ c.if-is_blank.false) (opens b.rules b.text.now b.flags.now c.args.index c.args.line _ (sym c.block_at.ensures)))
