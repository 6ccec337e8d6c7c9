use mathlib.Core.Path.{refl}
use mathlib.Core.Logic.{inl, inr}
use native.Mathlib.Omega.{arith}
use Rattle.text_lines.proofs.input.start_line.Goals as goal

pub returns-then-at-lt-FULL : goal.returns-then-at-lt-FULL
returns-then-at-lt-FULL c = record { empty = refl; well = refl; input_is = inl refl; room = c.if-at-lt-FULL.true }

pub returns-then-write_out : goal.returns-then-write_out
returns-then-write_out c = record { empty = refl; well = refl; input_is = inl refl; room = omega arith }

pub returns : goal.returns
returns c = record { empty = refl; well = refl; input_is = inr refl; room = omega arith }
