use Rattle.flight_line.specs.AirUsers.{air_asked, air_said}
use Rattle.air_line.specs.Lines.{parsed_in, parsed_with, air_script}
use Rattle.script.proofs.Rooms.{room_of}
use Rattle.script.proofs.Heard.{with-room}
use Rattle.text.proofs.Laws.{take-least}
use Prim.Native.Nat.{◌≤◌}
use native.Mathlib.Nat.{le_trans, min-le_left}
use lib.Dec.{lit≤}
use lib.ListN.{length, take, length-take}
use lib.Seq.{length-take-le}
use native.Mathlib.Omega.{arith}
use mathlib.Core.Path.{refl, sym, ◌∙◌}
use Rattle.flight_line.proofs.air_user.ask_air.Goals as goal

pub returns-in_default : goal.returns-in_default
unfolding air_asked parsed_in parsed_with
returns-in_default c = let line = c.args.line.now in
    let is = with-room air_script (length c.line_room-octets.result) line (omega (arith, room_of 2048 c.line_room-octets.ensures)) in
    rw (← is, ← c.parse_line-told.ensures, c.in_default.is) c.refuse.ensures

pub slice_bounds-octets-end : goal.slice_bounds-octets-end
slice_bounds-octets-end c = omega (arith, c.least.ensures.within, c.parse_line-told.auto.octets, room_of 2048 c.line_room-octets.ensures)

pub slice_bounds-came-end : goal.slice_bounds-came-end
slice_bounds-came-end c = sym (length-take-le _ _ (omega (arith, c.least.ensures.within, c.parse_line-told.auto.octets, room_of 2048 c.line_room-octets.ensures)))

pub returns : goal.returns
unfolding air_asked air_said parsed_in parsed_with
returns c = let l = c.least in
    let line = c.args.line.now in
    let long = room_of 2048 c.line_room-octets.ensures in
    let octets = c.parse_line-told.new.octets in
    let is = with-room air_script (length c.line_room-octets.result) line (omega (arith, long)) in
    let whole = c.parse_line-told.auto.octets ∙ long in
    let few : length (take l.result octets) ≤ 2048 = omega (arith, l.ensures.within, length-take l.result octets, min-le_left l.result (length octets)) in
    rw (← is, ← c.parse_line-told.ensures, c.in-Makes.is, ← take-least c.in-Makes.n 2048 octets whole, ← l.ensures.is, ← c.turn_air-t.ensures)
    (record { world_is = refl; text_is = c.put_answer.ensures.text_is; short = le_trans (c.put_answer.ensures.short few) (lit≤ tt) })
