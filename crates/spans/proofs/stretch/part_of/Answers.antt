use Rattle.std.proofs.Common.{refl, ◌∙◌, arith}
use Rattle.runs.proofs.Spans.{are-spans}
use Rattle.spans.proofs.Lists.{behind, no-span, part-here, part-on, part-last, part-none}
use Rattle.spans.proofs.stretch.part_of.Goals as goal

pub loop-span-init : goal.loop-span-init
loop-span-init c = let a = c.args in (are-spans 0 a.end a.spans.now (omega arith) c.requires, refl)

pub returns-then-ahead-eq0 : goal.returns-then-ahead-eq0
returns-then-ahead-eq0 c = let at = c.loop-span in let s = c.in-Some.span in
    part-here at.from c.args.end s.start s.stop s.sort at.ahead c.in-Some.ensures c.if-ahead-eq0.true ∙ at.invariant.1

pub loop-span-preserved : goal.loop-span-preserved
loop-span-preserved c = let at = c.loop-span in let s = c.in-Some.span in
    (behind c.in-Some.ensures at.invariant.0, part-on at.from c.args.end s.start s.stop s.sort at.ahead c.in-Some.ensures c.if-ahead-eq0.false ∙ at.invariant.1)

pub returns-then-ahead-eq0-2 : goal.returns-then-ahead-eq0-2
returns-then-ahead-eq0-2 c = let at = c.loop-span in
    part-last at.from c.args.end at.ahead (no-span c.in_default.ensures at.invariant.0) c.if-ahead-eq0-2.true ∙ at.invariant.1

pub returns : goal.returns
returns c = let at = c.loop-span in
    part-none at.from c.args.end at.ahead (no-span c.in_default.ensures at.invariant.0) c.if-ahead-eq0-2.false ∙ at.invariant.1
