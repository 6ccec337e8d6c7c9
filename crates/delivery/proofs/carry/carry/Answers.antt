use Rattle.delivery.proofs.Laws.{carry-goes, carry-stays, carry-ends}
use Rattle.world.specs.World.{world_of}
use native.Mathlib.Omega.{arith}
use Prim.Native.Nat.{◌-◌}
use mathlib.Core.Path.{◌≡◌, refl, ◌∙◌}
use Rattle.delivery.proofs.carry.carry.Goals as goal

pub loop-i-init : goal.loop-i-init
loop-i-init c = (refl, λ v q d. let e : c.args.k - 0 ≡ c.args.k = omega arith in rw e at d)

pub returns-then-c : goal.returns-then-c
returns-then-c c = c.loop-i.invariant.1 _ _ (carry-stays c.args.hear c.args.number c.args.k c.loop-i.i (world_of c.loop-i.world) c.carry_one-c.result c.loop-i-test.true c.if-c.true c.carry_one-c.ensures)

pub loop-i-preserved : goal.loop-i-preserved
loop-i-preserved c = (c.carry_one-c.auto.out ∙ c.loop-i.invariant.0, λ v q d. c.loop-i.invariant.1 v q (carry-goes c.args.hear c.args.number c.args.k c.loop-i.i (world_of c.loop-i.world) c.carry_one-c.result c.loop-i-test.true c.if-c.false c.carry_one-c.ensures d))

pub returns : goal.returns
returns c = c.loop-i.invariant.1 _ _ (carry-ends c.args.hear c.args.number c.args.k c.loop-i.i (world_of c.loop-i.world) c.loop-i-test.false)
