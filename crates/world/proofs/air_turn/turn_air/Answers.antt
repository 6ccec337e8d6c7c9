use Rattle.world.proofs.AirTurns.{turn-stays, turn-goes}
use Rattle.world.specs.AirTurns.{stays, goes_on, turned, sent_by}
use Rattle.world.specs.World.{world_of}
use Rattle.sending.specs.Ways.{way_of}
use lib.ListN.{length}
use native.Mathlib.Omega.{arith}
use Prim.Native.Nat.{◌≤◌, ◌<◌}
use Rattle.world.proofs.air_turn.turn_air.Goals as goal

pub returns-then-count-gt-MOST : goal.returns-then-count-gt-MOST
unfolding turned stays sent_by
returns-then-count-gt-MOST c = let x = way_of c.send_said-way.result in
    let more : 16 < length x.under = omega (arith, c.count.ensures, c.if-count-gt-MOST.true) in
    rw (← c.answer-a.ensures, c.refuse.ensures) (turn-stays (world_of c.args.w) c.args.number c.answer-a.result x c.send_said-way.ensures more)

pub returns : goal.returns
unfolding turned goes_on sent_by
returns c = let x = way_of c.send_said-way.result in
    let few : length x.under ≤ 16 = omega (arith, c.count.ensures, c.if-count-gt-MOST.false) in
    rw (← c.answer-a.ensures, c.taken_after.ensures) (turn-goes (world_of c.args.w) c.args.number c.answer-a.result x c.send_said-way.ensures few)
