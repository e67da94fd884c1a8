-- A refusal of the scan comes first; a scan that finds nothing has only the last record; a block that was found lies in the bulletin, so its trace can be written.
use Rattle.std.proofs.Common.{sym, ◌∙◌, ap}
use Rattle.flow.specs.Answer.{foundOf}
use Rattle.rules.proofs.Refusals.{raised}
use Rattle.trace.proofs.Outputs.{block-found-by, block-none-by, block-refused-by}
use Rattle.trace.proofs.BlockStops.{block-found-lies, block-scan-is}
use Rattle.trace.proofs.Empty.{exit-from, exit-to}
use Rattle.trace.proofs.block.block_trace.Goals as goal

pub returns-in_err-block : goal.returns-in_err-block
returns-in_err-block c = let a = c.args in
    let both = block-refused-by a.bulletin.now a.flags.now a.index a.out.now _ (block-scan-is a.bulletin.now a.flags.now a.index c.crate_rules.ensures c.in_err-block.ensures) in
    rw (raised c.from_residual.result c.from_residual.ensures.1) (record { answer = both.0; buffer = both.1 })

pub returns-in_default : goal.returns-in_default
returns-in_default c = let a = c.args in
    let e = block-scan-is a.bulletin.now a.flags.now a.index c.crate_rules.ensures (ap foundOf (sym c.in_default.is) ∙ c.in_ok-block.ensures) in
    let both = block-none-by a.bulletin.now a.flags.now a.index a.out.now e c.trace_last.ensures in
    record { answer = both.0; buffer = both.1 }

pub flow_exit-requires : goal.flow_exit-requires
flow_exit-requires c = let a = c.args in
    let e = block-scan-is a.bulletin.now a.flags.now a.index c.crate_rules.ensures (ap foundOf (sym c.in-Some.is) ∙ c.in_ok-block.ensures) in
    let l = block-found-lies a.bulletin.now a.flags.now a.index _ e in
    (l.from, l.to)

pub trace_piece-requires : goal.trace_piece-requires
trace_piece-requires c = let a = c.args in
    let e = block-scan-is a.bulletin.now a.flags.now a.index c.crate_rules.ensures (ap foundOf (sym c.in-Some.is) ∙ c.in_ok-block.ensures) in
    let l = block-found-lies a.bulletin.now a.flags.now a.index _ e in
    record { small = l.small; within = (l.from, rw c.flow_exit.ensures (exit-from _ _ _ _ _, exit-to _ _ _ _ _ l.to)) }

pub returns : goal.returns
returns c = let a = c.args in
    let e = block-scan-is a.bulletin.now a.flags.now a.index c.crate_rules.ensures (ap foundOf (sym c.in-Some.is) ∙ c.in_ok-block.ensures) in
    let both = block-found-by a.bulletin.now a.flags.now a.index a.out.now _ e (rw (c.flow_exit.ensures, c.from.ensures) at c.trace_piece.ensures) in
    record { answer = both.0; buffer = both.1 }
