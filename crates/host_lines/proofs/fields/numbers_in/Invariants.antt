use mathlib.Core.Path.{◌≡◌}
use Prim.Native.Nat.{◌-◌, ◌≤◌}
use lib.ListN.{length, drop}
use Rattle.host_lines.specs.Fields.{numbers_from, numbers_in}
use Rattle.host_lines.proofs.fields.numbers_in.Given as goal

abbrev pub invariant-loop-i : goal.invariant-loop-i
invariant-loop-i l = (l.at ≤ length l.s) × (numbers_from (48 - l.i) l.i l.list (drop l.at l.s) ≡ numbers_in l.s)
