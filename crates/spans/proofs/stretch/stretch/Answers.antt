use Rattle.std.proofs.Common.{◌∙◌, ap, ◌+◌, rules}
use Rattle.spans.proofs.Stretches.{part-fits, part-bytes}
use Rattle.spans.proofs.stretch.stretch.Goals as goal

pub overflow_add-part : goal.overflow_add-part
overflow_add-part c = let a = c.args in
    let e = ap (λ p. p.start + p.size) c.stretch_part-part.ensures in
    let h = part-fits a.bulletin.now a.spans.now a.number in search (rules, e, h)

pub returns : goal.returns
returns c = let a = c.args in c.from_indices.ensures ∙ part-bytes a.bulletin.now a.spans.now a.number _ _ c.stretch_part-part.ensures
