-- A refusal of the scan comes first; a scan that finds nothing has only the last record; a piece that was found lies in the text, so its trace can be written.
use Rattle.std.proofs.Common.{sym, ◌∙◌, ap, arith}
use Rattle.html.specs.Answer.{stopping}
use Rattle.rules.proofs.Refusals.{raised}
use Rattle.trace.proofs.Outputs.{found-by, none-by, refused-by}
use Rattle.trace.proofs.Stops.{found-lies, scan-is}
use Rattle.trace.proofs.tracer.inline_trace.Goals as goal

pub returns-in_err-found : goal.returns-in_err-found
returns-in_err-found c = let a = c.args in
    let both = refused-by a.text.now a.index a.carry a.out.now _ _ (scan-is a.text.now a.index a.carry c.crate_rules.ensures c.in_err-found.ensures) in
    rw (raised c.from_residual.result c.from_residual.ensures.1) (record { answer = both.0; buffer = both.1 })

pub returns-in_default : goal.returns-in_default
returns-in_default c = let a = c.args in
    let e = scan-is a.text.now a.index a.carry c.crate_rules.ensures (ap (λ s. stopping s c.in_ok-found.found.carry) (sym c.in_default.is) ∙ c.in_ok-found.ensures) in
    let both = none-by a.text.now a.index a.carry a.out.now _ e c.trace_last.ensures in
    record { answer = both.0; buffer = both.1 }

pub trace_piece-requires : goal.trace_piece-requires
trace_piece-requires c = let a = c.args in
    let e = scan-is a.text.now a.index a.carry c.crate_rules.ensures (ap (λ s. stopping s c.in_ok-found.found.carry) (sym c.in-Some.is) ∙ c.in_ok-found.ensures) in
    let l = found-lies a.text.now a.index a.carry _ _ e in
    record { small = l.small; within = (l.from, (omega arith, l.to)) }

pub returns : goal.returns
returns c = let a = c.args in
    let e = scan-is a.text.now a.index a.carry c.crate_rules.ensures (ap (λ s. stopping s c.in_ok-found.found.carry) (sym c.in-Some.is) ∙ c.in_ok-found.ensures) in
    let both = found-by a.text.now a.index a.carry a.out.now _ _ e c.trace_piece.ensures in
    record { answer = both.0; buffer = both.1 }
