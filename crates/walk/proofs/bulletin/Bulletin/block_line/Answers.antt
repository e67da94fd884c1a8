use Rattle.std.proofs.Common.{refl}
use Rattle.rules.specs.Withhold.{block}
use Rattle.walk.proofs.Places.{leads-block}
use Rattle.walk.proofs.bulletin.Bulletin.block_line.Goals as goal

pub returns : goal.returns
returns c = let a = c.args in let b = a.self in let o = c.requires.opens in let e = c.block_end-end.ensures in
    leads-block b.rules b.text.now b.flags.now a.cursor.next a.cursor.line a.stop (block o.found.kind o.found.closed) _ _ _ c.next_line.ensures c.at_line.ensures (e.pieces b.rules o.found o.stops o.is) refl
