-- Each return passes the checks before it, in the order of the table.
use Rattle.std.proofs.Common.{lt-ltb, le-ltb}
use Rattle.rules.specs.Refusal.{refusal, inlineRefusal}
use Rattle.html.proofs.scan.check_inline.Goals as goal

pub returns-then-is_over_limit : goal.returns-then-is_over_limit
unfolding refusal inlineRefusal
returns-then-is_over_limit c = simp (← c.is_over_limit.ensures, c.if-is_over_limit.true)

pub returns-then-index-text : goal.returns-then-index-text
unfolding refusal inlineRefusal
returns-then-index-text c = simp (← c.is_over_limit.ensures, c.if-is_over_limit.false, lt-ltb _ _ c.if-index-text.true)

pub returns-then-carry-gt-MOST_CARRY : goal.returns-then-carry-gt-MOST_CARRY
unfolding refusal inlineRefusal
returns-then-carry-gt-MOST_CARRY c = simp (← c.is_over_limit.ensures, c.if-is_over_limit.false, le-ltb _ _ c.if-index-text.false, lt-ltb _ _ c.if-carry-gt-MOST_CARRY.true)

pub returns-then-has_blank_line : goal.returns-then-has_blank_line
unfolding refusal inlineRefusal
returns-then-has_blank_line c =
    simp (← c.is_over_limit.ensures, c.if-is_over_limit.false, le-ltb _ _ c.if-index-text.false, le-ltb _ _ c.if-carry-gt-MOST_CARRY.false, ← c.has_blank_line.ensures, c.if-has_blank_line.true)

pub returns : goal.returns
unfolding refusal inlineRefusal
returns c =
    simp (← c.is_over_limit.ensures, c.if-is_over_limit.false, le-ltb _ _ c.if-index-text.false, le-ltb _ _ c.if-carry-gt-MOST_CARRY.false, ← c.has_blank_line.ensures, c.if-has_blank_line.false)
