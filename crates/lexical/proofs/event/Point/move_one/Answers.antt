use Rattle.std.proofs.Common.{◌∙◌, eq-eqb, ne_eqb}
use Rattle.lexical.specs.Point.{moved}
use Rattle.lexical.proofs.event.Point.move_one.Goals as goal

pub returns-in-Some-Normal-eq10 : goal.returns-in-Some-Normal-eq10
unfolding moved
returns-in-Some-Normal-eq10 c = let n = c.in-Some-Normal-eq10 in c.next_line.ensures ∙ simp (← n.ensures, n.field-0-is, eq-eqb _ _ n.field-0-0-test)

pub returns-in-Some-Normal : goal.returns-in-Some-Normal
unfolding moved
returns-in-Some-Normal c = let n = c.in-Some-Normal in c.next_byte.ensures ∙ simp (← n.ensures, n.field-0-is, ne_eqb _ _ n.field-0-0-test.1)

pub returns-in-Some-Ignore : goal.returns-in-Some-Ignore
unfolding moved
returns-in-Some-Ignore c = let i = c.in-Some-Ignore in c.skip_byte.ensures ∙ simp (← i.ensures, i.field-0-is)

pub returns-in-Some-Insert : goal.returns-in-Some-Insert
unfolding moved
returns-in-Some-Insert c = let i = c.in-Some-Insert in c.next_reading.ensures ∙ simp (← i.ensures, i.field-0-is)

pub returns-in-None : goal.returns-in-None
unfolding moved
returns-in-None c = simp (← c.byte_action.ensures, c.in-None.is)
