use Rattle.std.proofs.Common.{refl}
use Rattle.lexical.specs.Name.{rawNames, sameBytes, nameBytes, nameOffsets, cut, all, chain, rising, namesBelow, startsFrom, letterStarts}
use Rattle.lexical.proofs.Names.{sameNames, same-names, raw-sound, cut-table}
use Rattle.lexical.proofs.constant.raw_table.Goals as goal

pub returns-clause-bytes : goal.returns-clause-bytes
unfolding rawNames nameBytes
returns-clause-bytes c = refl

pub returns-clause-offsets : goal.returns-clause-offsets
unfolding rawNames nameOffsets
returns-clause-offsets c = refl

pub returns-clause-names : goal.returns-clause-names
unfolding rawNames cut sameNames sameBytes
returns-clause-names c = same-names _ rawNames refl

pub invariant_of-result : goal.invariant_of-result
unfolding rawNames cut sameNames sameBytes rising all chain letterStarts startsFrom namesBelow
invariant_of-result c = record { by_letter = cut-table rawNames raw-sound _ _ _ refl refl (same-names _ rawNames refl) refl }
