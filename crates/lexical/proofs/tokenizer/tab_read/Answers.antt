use Rattle.lexical.specs.Point.{tabRead}
use Rattle.lexical.proofs.Cases.{tests}
use Rattle.lexical.proofs.tokenizer.tab_read.Goals as goal

pub returns-then-vs-eq0 : goal.returns-then-vs-eq0
unfolding tabRead
returns-then-vs-eq0 c = search tests

pub returns-else-vs-eq0 : goal.returns-else-vs-eq0
unfolding tabRead
returns-else-vs-eq0 c = search tests
