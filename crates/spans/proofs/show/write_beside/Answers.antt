use Rattle.std.proofs.Common.{arith, rules}
use Rattle.lexical.proofs.Stores.{nothing-written}
use Rattle.rules.specs.Spans.{asPieces}
use Rattle.runs.proofs.Spans.{beside-most}
use Rattle.walk.proofs.Replacing.{withholding, size-bound, showing-on, shows-all}
use Rattle.spans.proofs.Lists.{behind}
use Rattle.spans.proofs.Showing.{takes, no-piece, all-valid, writing-start}
use Rattle.spans.proofs.show.write_beside.Goals as goal

pub loop-span-init : goal.loop-span-init
loop-span-init c = let a = c.args in
    (all-valid a.bulletin.now a.spans.now c.requires.are_spans, writing-start a.bulletin.now a.spans.now c.requires.are_spans a.out.now)

pub overflow_add-size : goal.overflow_add-size
overflow_add-size c = let a = c.args in let s = c.in-Some.span in
    let h = size-bound (asPieces a.spans.now) (withholding a.bulletin.now) c.loop-span.invariant.1.walking (takes s.start s.stop s.sort c.in-Some.ensures) in
    let b = beside-most a.bulletin.now a.spans.now c.requires.are_spans in search (rules, h, b)

pub loop-span-preserved : goal.loop-span-preserved
loop-span-preserved c = let a = c.args in let at = c.loop-span in let s = c.in-Some.span in (
  behind c.in-Some.ensures at.invariant.0,
  showing-on (asPieces a.spans.now) (withholding a.bulletin.now) a.out.now c.requires.room at.invariant.1 (takes s.start s.stop s.sort c.in-Some.ensures) c.copy_part.ensures nothing-written _ (omega arith),
)

pub returns : goal.returns
returns c = let a = c.args in let at = c.loop-span in
    shows-all (asPieces a.spans.now) (withholding a.bulletin.now) a.out.now c.requires.room at.invariant.1 (no-piece c.in_default.ensures at.invariant.0) c.copy_part-2.ensures
