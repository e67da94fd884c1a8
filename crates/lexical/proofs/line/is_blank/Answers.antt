use Rattle.std.proofs.Common.{◌≡◌, drop, sym, ap, ◌∙◌, arith}
use Rattle.std.proofs.lemmas.Grind.{common_steps}
use Rattle.lexical.specs.Line.{atLineEnd}
use Rattle.lexical.proofs.Ending.{blank-at}
use Rattle.lexical.proofs.line.is_blank.Goals as goal

pub returns : goal.returns
returns c = let s = c.args.bytes.now in
    let behind : c.is_none_or.result ≡ atLineEnd (drop c.space_or_tab_end-end.result s) = grind (arith, common_steps) in
    behind ∙ ap (λ j. atLineEnd (drop j s)) c.space_or_tab_end-end.ensures ∙ sym (blank-at s c.args.index)
