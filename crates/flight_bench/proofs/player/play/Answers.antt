use native.Mathlib.Omega.{arith}
use Rattle.script.proofs.Rooms.{room_of}
use Rattle.flight_bench.proofs.player.play.Goals as goal

pub end_flight-e-requires : goal.end_flight-e-requires
end_flight-e-requires c = λ well.
    let r = c.run-p in
    omega (arith, r.ensures.room well, r.auto.out, c.begin-t.auto.out, room_of 131072 c.page_room-out.ensures)
