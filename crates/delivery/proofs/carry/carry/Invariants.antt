use Rattle.delivery.specs.Deliveries.{carried, LETTER-MOST, Flies}
use Rattle.world.specs.World.{World, world_of}
use Rattle.text.specs.Page.{Page, page}
use lib.ListN.{length}
use Prim.Native.Nat.{◌-◌, ◌*◌}
use mathlib.Core.Path.{◌≡◌}
use Rattle.delivery.proofs.carry.carry.Given as goal

abbrev pub invariant-loop-i : goal.invariant-loop-i
invariant-loop-i l = (length l.out ≡ length l.initial.out) × ((v : World) (q : Page) → Flies ((l.k - l.i) * LETTER-MOST) (carried l.hear (l.k - l.i) l.number l.i (world_of l.world)) (page l.out l.a) v q → Flies (l.k * LETTER-MOST) (carried l.hear l.k l.number 0 (world_of l.initial.world)) (page l.initial.out l.initial.a) v q)
