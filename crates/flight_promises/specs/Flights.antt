-- Each end's link after any flight script is that end's link after its own calls, those made and those delivered to it: so every promise of the ground and of
-- the air, which holds after any sequence of calls, holds in flight. And never more than 16 letters are under way.
use Rattle.std.specs.Prelude.{◌≡◌, true, List, [], ◌∷◌, ℕ, ◌≤◌, ltb, length}
use Rattle.text.specs.Text.{pick}
use Rattle.pdu_parts.specs.declared.lists.Listed.{Listed}
use Rattle.sides.specs.Runs.{after}
use Rattle.ground.specs.Runs as ground
use Rattle.ground.specs.declared.call.Call as ground_call
use Rattle.air.specs.Runs as air
use Rattle.air.specs.declared.call.Call as air_call
use Rattle.sending.specs.Ways.{way}
use Rattle.world.specs.World.{World, MOST}
use Rattle.world.specs.GroundTurns as to_ground
use Rattle.world.specs.AirTurns as to_air
use Rattle.flight_line.specs.Lines.{world_on}
use Rattle.flight_promises.specs.Told.{Tell, told_on}

-- a call, where no more than 16 letters are under way after it: else it is not made ("refused with 17 and changes nothing")
unfoldable pub ground_made : World → ground_call.Call → List ℕ → List ground.Made
ground_made w c s =
    pick (ltb MOST (length (to_ground.sent_by (ground.answered w.ground_end.link c s).said (way w.under w.last)).under)) []
    (record { call = c; octets = s } ∷ [])

unfoldable pub air_made : World → ℕ → air_call.Call → Listed → List ℕ → List air.Made
air_made w n c list s =
    pick (ltb MOST (length (to_air.sent_by (air.answered w.air.link c list s).said (way w.under n)).under)) []
    (record { call = c; list = list; octets = s } ∷ [])

-- an end's own calls
abbrev pub is_of_ground : Tell ground.Made
is_of_ground = record { for_ground = ground_made; for_air = λ w n c list s. [] }

abbrev pub is_of_air : Tell air.Made
is_of_air = record { for_ground = λ w c s. []; for_air = air_made }

-- from the world w to the world v: an end that has its settings keeps them, and its link is what it was after calls of its own
pub record Kept (w v : World) (gs : List ground.Made) (cs : List air.Made) : Type 0 where
  pub of_ground : w.ground_end.ready ≡ true → (v.ground_end.ready ≡ true) × (v.ground_end.link ≡ after ground.ground w.ground_end.link gs)
  pub of_air : w.air.ready ≡ true → (v.air.ready ≡ true) × (v.air.link ≡ after air.air_side w.air.link cs)
  pub no_more : length w.under ≤ MOST → length v.under ≤ MOST

-- after any lines of a flight, by the calls on them
abbrev pub Flights : Type 0
Flights = (n : ℕ) (w : World) (lines : List (List ℕ)) → Kept w (world_on n w lines) (told_on is_of_ground n w lines) (told_on is_of_air n w lines)
