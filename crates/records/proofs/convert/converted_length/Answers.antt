use Rattle.std.proofs.Common.{rules, ◌∙◌, arith}
use Rattle.records.specs.Answer.{bytesOf}
use Rattle.records.proofs.Records.{event-size, last-size}
use Rattle.records.proofs.Turns.{lengths}
use Rattle.records.proofs.convert.converted_length.Goals as goal

pub nonzero_div-events : goal.nonzero_div-events
nonzero_div-events c = omega (arith, c.record_length.ensures, event-size (bytesOf c.args.from) 12 (omega arith))

pub overflow_mul-result : goal.overflow_mul-result
overflow_mul-result c = let a = c.args in
    let l = lengths a.from a.to a.trace.now (λ i. omega (arith, c.type_inv.trace i)) c.requires.taken in
    let g = c.well_formed in
    rw (c.record_length.ensures ∙ event-size (bytesOf a.from) _ (omega arith), c.record_length-2.ensures ∙ event-size (bytesOf a.to) _ (omega arith)) (search (rules, l.small, g))

pub overflow_add-result : goal.overflow_add-result
overflow_add-result c = let a = c.args in
    let l = lengths a.from a.to a.trace.now (λ i. omega (arith, c.type_inv.trace i)) c.requires.taken in
    let g = c.well_formed in
    rw (c.record_length.ensures ∙ event-size (bytesOf a.from) _ (omega arith), c.record_length-2.ensures ∙ event-size (bytesOf a.to) _ (omega arith), c.record_length-3.ensures ∙ last-size (bytesOf a.to) _ (omega arith)) (search (rules, l.small, g))

pub returns : goal.returns
returns c = let a = c.args in
    let l = lengths a.from a.to a.trace.now (λ i. omega (arith, c.type_inv.trace i)) c.requires.taken in
    rw (c.record_length.ensures ∙ event-size (bytesOf a.from) _ (omega arith), c.record_length-2.ensures ∙ event-size (bytesOf a.to) _ (omega arith), c.record_length-3.ensures ∙ last-size (bytesOf a.to) _ (omega arith)) l.is
