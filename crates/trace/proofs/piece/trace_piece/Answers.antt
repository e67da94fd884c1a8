-- The length that was counted is that of the trace: where the piece is left adds no event. So the check against the buffer is that of 7, and behind it there is room.
use Rattle.std.proofs.Common.{rules, refl, sym, ◌∙◌, arith, length-take-le}
use Rattle.rules.proofs.Outputs.{not-written, is-written}
use Rattle.records.specs.Answer.{formNumber}
use Rattle.trace.specs.Walk.{pieceTrace}
use Rattle.trace.proofs.Marks.{stands-first, and-last, lent-back}
use Rattle.trace.proofs.Pieces.{piece-length}
use Rattle.trace.proofs.piece.trace_piece.Goals as goal

pub returns-then-out-length : goal.returns-then-out-length
returns-then-out-length c = let a = c.args in
    not-written _ _ _ (omega (arith, c.if-out-length.true, c.piece_length-length.ensures a.piece.exit, piece-length a.text.now a.piece))

pub invariant_of-pen : goal.invariant_of-pen
invariant_of-pen c = let a = c.args in
    let front = length-take-le a.piece.stop a.text.now (omega arith) in
    record { small = c.requires.small; within = omega arith; stands = stands-first a.text.now c.start.result c.start.ensures }

pub returns : goal.returns
unfolding pieceTrace
returns c = let a = c.args in
    let p = a.piece in
    let lent = c.mark_last.ensures.kept.lent ∙ c.mark_piece.ensures.kept.lent in
    is-written _ _ _ (c.piece_length-length.ensures p.exit ∙ sym (piece-length a.text.now p)) c.if-out-length.false
    (lent-back (search rules) (and-last c.mark_last.new.self (formNumber p.form) p.stop p.value refl c.mark_piece.ensures c.mark_last.ensures.bytes))
