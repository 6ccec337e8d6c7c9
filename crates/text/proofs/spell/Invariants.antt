use Rattle.text.specs.Text.{decimal_onto}
use Rattle.text.specs.Text.{decimal}
use lib.ListN.{length, drop}
use Prim.Native.Nat.{◌≤◌}
use mathlib.Core.Path.{◌≡◌}
use Rattle.text.proofs.spell.Given as goal

abbrev pub invariant-loop-i : goal.invariant-loop-i
invariant-loop-i l = (l.i ≤ 19) × (length l.text ≡ 20) × (decimal_onto l.i l.rest (drop l.i l.text) ≡ decimal l.n)

abbrev pub decreases-loop-i : goal.decreases-loop-i
decreases-loop-i l = l.i
