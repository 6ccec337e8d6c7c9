use mathlib.Core.Path.{◌≡◌}
use mathlib.Core.Bool.{false}
use Prim.Native.Nat.{◌*◌}
use Rattle.pdu_parts.specs.Lists.{entry_c}
use Rattle.pdu_parts.specs.ListsInner.{Filled}
use Rattle.pdu_parts.proofs.lists.read_halves.Given as goal

abbrev pub invariant-loop-i : goal.invariant-loop-i
invariant-loop-i l = l.next.refusal ≡ 0 → Filled (entry_c false 127) (l.i * 4) l.s l.initial.next l.items l.next
