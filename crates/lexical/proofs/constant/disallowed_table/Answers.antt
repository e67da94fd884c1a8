use Rattle.std.proofs.Common.{refl}
use Rattle.lexical.specs.Name.{disallowedNames, sameBytes, nameBytes, nameOffsets, cut, all, chain, rising, namesBelow, startsFrom, letterStarts}
use Rattle.lexical.proofs.Names.{sameNames, same-names, disallowed-sound, cut-table}
use Rattle.lexical.proofs.constant.disallowed_table.Goals as goal

pub returns-clause-bytes : goal.returns-clause-bytes
unfolding disallowedNames nameBytes
returns-clause-bytes c = refl

pub returns-clause-offsets : goal.returns-clause-offsets
unfolding disallowedNames nameOffsets
returns-clause-offsets c = refl

pub returns-clause-names : goal.returns-clause-names
unfolding disallowedNames cut sameNames sameBytes
returns-clause-names c = same-names _ disallowedNames refl

pub invariant_of-result : goal.invariant_of-result
unfolding disallowedNames cut sameNames sameBytes rising all chain letterStarts startsFrom namesBelow
invariant_of-result c = record { by_letter = cut-table disallowedNames disallowed-sound _ _ _ refl refl (same-names _ disallowedNames refl) refl }
