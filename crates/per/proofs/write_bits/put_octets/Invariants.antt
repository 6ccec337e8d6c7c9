use Prim.Native.Nat.{◌+◌, ◌-◌, ◌*◌, ◌/◌, ◌^◌, ◌≤◌}
use mathlib.Core.Path.{◌≡◌}
use Rattle.per.specs.Bits.{to_bits}
use Rattle.per.specs.Writing.{put_bits}
use Rattle.per.proofs.write_bits.put_octets.Given as goal

abbrev pub invariant-loop-left : goal.invariant-loop-left
invariant-loop-left l = (l.left ≤ l.w) × (l.i * 8 + l.left ≡ l.from * 8 + l.w) × (l.out ≡ put_bits l.initial.out (l.from * 8) (to_bits (l.w - l.left) (l.v / 2 ^ l.left)))

abbrev pub decreases-loop-left : goal.decreases-loop-left
decreases-loop-left l = l.left
