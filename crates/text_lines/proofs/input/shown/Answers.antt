use mathlib.Core.Path.{sym}
use native.Mathlib.Omega.{arith}
use lib.Seq.{length-take-le}
use Rattle.std.proofs.Common.{rules}
use Rattle.text_lines.proofs.input.shown.Goals as goal

pub returns-then-at-out : goal.returns-then-at-out
returns-then-at-out c = record { is = search rules; there = (omega arith, sym (length-take-le _ _ (omega arith))) }

pub returns-else-at-out : goal.returns-else-at-out
returns-else-at-out c = record { is = search rules; there = (omega arith, sym (length-take-le _ _ (omega arith))) }
