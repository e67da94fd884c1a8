use Rattle.std.proofs.Common.{sym, ap, ◌∙◌, is_some, map}
use Rattle.lexical.specs.Byte.{lower}
use Rattle.lexical.specs.Name.{placeFrom}
use Rattle.lexical.proofs.Names.{is-named, disallowed-place-is}
use Rattle.lexical.proofs.constant.is_disallowed_name.Goals as goal

pub returns : goal.returns
returns c =
    let place = ap (λ names. placeFrom 0 (map lower c.args.name.now) names) c.disallowed_table.ensures.names in
    c.is_some.ensures ∙ ap is_some c.place.ensures ∙ is-named _ ∙ sym (disallowed-place-is _ _ place)
