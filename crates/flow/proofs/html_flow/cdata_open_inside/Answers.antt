use Rattle.std.proofs.Common.{◌∙◌, ap, ℕ, eqb}
use Rattle.rules.proofs.Prefix.{cdata-whole}
use Rattle.flow.proofs.html_flow.cdata_open_inside.Goals as goal

pub returns : goal.returns
returns c = ap (λ (n : ℕ). eqb n 6) c.cdata_letters.ensures ∙ cdata-whole _
