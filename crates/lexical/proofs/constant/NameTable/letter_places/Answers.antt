use Rattle.std.proofs.Common.{arith}
use Rattle.lexical.proofs.Letters.{letter-most, goes-letter, goes-nowhere}
use Rattle.lexical.proofs.Lookup.{starts-long}
use Rattle.lexical.proofs.constant.NameTable.letter_places.Goals as goal

pub bounds-self-letter : goal.bounds-self-letter
bounds-self-letter c = omega (arith, letter-most c.to_ascii_lowercase-lower.result c.if-lower.true, starts-long _ _ _ c.args.self.now.by_letter)

pub bounds-self-letter-then-lower : goal.bounds-self-letter-then-lower
bounds-self-letter-then-lower c = omega (arith, letter-most c.to_ascii_lowercase-lower.result c.if-lower.true, starts-long _ _ _ c.args.self.now.by_letter)

pub returns-then-lower : goal.returns-then-lower
returns-then-lower c = goes-letter _ _ _ c.to_ascii_lowercase-lower.ensures c.if-lower.true

pub returns : goal.returns
returns c = goes-nowhere _ _ _ c.to_ascii_lowercase-lower.ensures c.if-lower.false
