use Rattle.std.proofs.Common.{arith}
use Rattle.lexical.proofs.Lookup.{forward, inside, name-is}
use Rattle.lexical.proofs.constant.NameTable.name.Goals as goal

pub slice_bounds-result-count : goal.slice_bounds-result-count
slice_bounds-result-count c = omega (arith, forward _ _ _ c.args.self.now.by_letter c.args.place c.requires)

pub slice_bounds-result-start : goal.slice_bounds-result-start
slice_bounds-result-start c = omega (arith, forward _ _ _ c.args.self.now.by_letter c.args.place c.requires)

pub slice_bounds-result-end : goal.slice_bounds-result-end
slice_bounds-result-end c = omega (arith, inside _ _ _ c.args.self.now.by_letter c.args.place c.requires)

pub returns : goal.returns
returns c = name-is _ _ _ c.args.self.now.by_letter c.args.place c.requires
