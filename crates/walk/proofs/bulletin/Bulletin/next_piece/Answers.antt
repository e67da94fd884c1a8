use Rattle.std.proofs.Common.{sym, subst}
use Rattle.walk.specs.Remaining.{NextInline, Goes}
use Rattle.walk.proofs.Places.{inner-known, leads-onward, paragraph-over}
use Rattle.walk.proofs.bulletin.Bulletin.next_piece.Goals as goal

pub returns-in-Some : goal.returns-in-Some
returns-in-Some c valid = let a = c.args in let b = a.self in let f = c.from_indices-text.ensures in
    leads-onward b.rules b.text.now b.flags.now a.cursor valid _ f _
    (subst (NextInline b.rules _ _) c.in-Some.is (c.next_inline.ensures (inner-known b.rules b.text.now b.flags.now a.cursor valid _ f)))

pub returns-in-None : goal.returns-in-None
returns-in-None c valid = let a = c.args in let b = a.self in let f = c.from_indices-text.ensures in
    subst (λ ps. Goes b ps c.line_piece.result)
    (sym (paragraph-over b.rules b.text.now b.flags.now a.cursor valid _ f (subst (NextInline b.rules c.from_indices-text.result.now a.cursor.index) c.in-None.is (c.next_inline.ensures (inner-known b.rules b.text.now b.flags.now a.cursor valid _ f)))))
    c.line_piece.ensures
