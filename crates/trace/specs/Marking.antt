-- What marking events does to a pen. Only contracts inside the crate speak of this.
use Rattle.std.specs.Prelude.{◌≡◌, List, ◌+◌, ◌*◌, length}
use Rattle.lexical.specs.Buffer.{Written}
use Rattle.rules.specs.Trace.{Event}
use Rattle.trace.specs.Writing.{eventLength, eventBytes}
use Rattle.trace.specs.declared.pen.Pen.{Pen}

-- the pen writes the same piece into the same buffer
pub record Kept (old new : Pen) : Type 0 where
  pub text : new.text ≡ old.text
  pub front : new.front ≡ old.front
  pub lent : new.out.ghost_name ≡ old.out.ghost_name
  pub size : length new.out.now ≡ length old.out.now

-- the bytes of events are written where it was, and it stands behind them
pub record Marked (old : Pen) (es : List Event) (new : Pen) : Type 0 where
  pub kept : Kept old new
  pub bytes : Written old.out.now old.at (eventBytes old.text.now es) new.out.now
  pub at-is : new.at ≡ old.at + eventLength * length es
