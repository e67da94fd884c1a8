-- The invariant: no name before the next place is it, so its place among those from there on is its place in the list.
use Rattle.std.proofs.Common.{◌≡◌, ◌≤◌, map, length}
use Rattle.lexical.specs.Byte.{lower}
use Rattle.lexical.specs.Name.{placeFrom, cut}
use Rattle.lexical.proofs.Lookup.{placeAmong}
use Rattle.lexical.proofs.constant.NameTable.place.Given as goal

abbrev pub invariant-loop-place : goal.invariant-loop-place
invariant-loop-place l =
    let names = cut l.self.names.now l.self.offsets.now in
    (l.place-iterator.start ≤ l.place-iterator.end)
    × (l.place-iterator.end ≤ length names)
    × (placeAmong names (map lower l.name) l.place-iterator.start l.place-iterator.end ≡ placeFrom 0 (map lower l.name) names)
