use Rattle.std.proofs.Common.{sym, ap, ◌∙◌}
use Rattle.rules.specs.Filter.{disallowedName}
use Rattle.tagfilter.proofs.Tags.{no-tag, tag-is}
use Rattle.tagfilter.proofs.tag.is_disallowed.Goals as goal

pub returns-in_default : goal.returns-in_default
returns-in_default c = sym (no-tag c.args.text.now c.in_default.ensures.cases)

pub returns : goal.returns
returns c = let h = c.in-Some.ensures.cases in
    c.names_disallowed.ensures ∙ ap (λ t. disallowedName t.now) c.unwrap_or.ensures ∙ sym (tag-is c.args.text.now c.in-Some.tag c.strip_prefix-2.result h.0 h.1 c.strip_prefix-2.ensures.cases)
