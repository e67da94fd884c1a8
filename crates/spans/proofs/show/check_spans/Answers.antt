-- Each return passes the checks before it, in the order of the table.
use Rattle.rules.specs.Refusal.{refusal}
use Rattle.rules.specs.Spans.{spansRefusal}
use Rattle.spans.proofs.show.check_spans.Goals as goal

pub returns-then-is_over_limit : goal.returns-then-is_over_limit
unfolding refusal spansRefusal
returns-then-is_over_limit c = simp (← c.is_over_limit.ensures, c.if-is_over_limit.true)

pub returns-then-not-are_spans : goal.returns-then-not-are_spans
unfolding refusal spansRefusal
returns-then-not-are_spans c = simp (← c.is_over_limit.ensures, c.if-is_over_limit.false, ← c.are_spans.ensures, c.if-not-are_spans.true)

pub returns : goal.returns
unfolding refusal spansRefusal
returns c = simp (← c.is_over_limit.ensures, c.if-is_over_limit.false, ← c.are_spans.ensures, c.if-not-are_spans.false)
