use Rattle.std.proofs.Common.{sym, ◌∙◌}
use Rattle.spans.proofs.Lists.{short, span-on, span-wrong}
use Rattle.spans.proofs.list.are_spans.Goals as goal

pub returns-then-not-is_span : goal.returns-then-not-is_span
returns-then-not-is_span c = let a = c.args in let at = c.loop-span in let s = c.in-Some.span in
    sym (span-wrong at.from a.end s.start s.stop s.sort c.in-Some.rest.now c.in-Some.ensures (sym c.is_span.ensures ∙ c.if-not-is_span.true)) ∙ at.invariant

pub loop-span-preserved : goal.loop-span-preserved
loop-span-preserved c = let a = c.args in let at = c.loop-span in let s = c.in-Some.span in
    span-on at.from a.end s.start s.stop s.sort c.in-Some.rest.now c.in-Some.ensures (sym c.is_span.ensures ∙ c.if-not-is_span.false) ∙ at.invariant

pub returns : goal.returns
returns c = c.is_empty.ensures ∙ sym (short c.loop-span.from c.args.end c.loop-span.left.now c.in_default.ensures) ∙ c.loop-span.invariant
