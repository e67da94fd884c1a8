use Rattle.std.proofs.Common.{refl}
use Rattle.lexical.specs.Name.{blockNames, sameBytes, nameBytes, nameOffsets, cut, all, chain, rising, namesBelow, startsFrom, letterStarts}
use Rattle.lexical.proofs.Names.{sameNames, same-names, block-sound, cut-table}
use Rattle.lexical.proofs.constant.block_table.Goals as goal

pub returns-clause-bytes : goal.returns-clause-bytes
unfolding blockNames nameBytes
returns-clause-bytes c = refl

pub returns-clause-offsets : goal.returns-clause-offsets
unfolding blockNames nameOffsets
returns-clause-offsets c = refl

pub returns-clause-names : goal.returns-clause-names
unfolding blockNames cut sameNames sameBytes
returns-clause-names c = same-names _ blockNames refl

pub invariant_of-result : goal.invariant_of-result
unfolding blockNames cut sameNames sameBytes rising all chain letterStarts startsFrom namesBelow
invariant_of-result c = record { by_letter = cut-table blockNames block-sound _ _ _ refl refl (same-names _ blockNames refl) refl }
