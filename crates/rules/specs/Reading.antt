-- Readings: which of the eight changes (SCOPE, Reading rules) are made.
use Rattle.std.specs.Prelude.{Bool, true, false}
use Rattle.rules.specs.declared.Rules.{Rules}

pub data Change : Type 0 where
  F1 : Change
  F2 : Change
  F3 : Change
  F4 : Change
  F5 : Change
  F6 : Change
  T1 : Change
  T2 : Change

abbrev pub reading : Bool → Bool → Bool → Bool → Bool → Bool → Bool → Bool → Rules
reading a b c d e f g h =
    record { f1 = a; f2 = b; f3 = c; f4 = d; f5 = e; f6 = f; t1 = g; t2 = h }

-- the reading of the Rust: all eight
abbrev pub crate : Rules
crate = reading true true true true true true true true

-- the standard reading: none
abbrev pub standard : Rules
standard = reading false false false false false false false false

-- all eight but one
abbrev pub without : Change → Rules
without F1 = reading false true true true true true true true
without F2 = reading true false true true true true true true
without F3 = reading true true false true true true true true
without F4 = reading true true true false true true true true
without F5 = reading true true true true false true true true
without F6 = reading true true true true true false true true
without T1 = reading true true true true true true false true
without T2 = reading true true true true true true true false
