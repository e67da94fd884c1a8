use Rattle.std.proofs.Common.{length}
use Rattle.screen.proofs.BothRuns.{both-alike}
use Rattle.screen.proofs.both.withhold_both.Goals as goal

pub returns-clause-alike : goal.returns-clause-alike
returns-clause-alike c = let a = c.args in
    let w = c.withhold-a.ensures in
    let v = c.withhold-b.ensures in
    both-alike a.rules a.flags.now a.one.now a.two.now (length a.first_list.now) (length a.second_list.now) a.first.now a.second.now _ _ w.buffer v.buffer _ _ w.answer v.answer
