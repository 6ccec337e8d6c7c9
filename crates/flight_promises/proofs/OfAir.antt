-- What a call of the aircraft keeps. Assumes nothing.
use mathlib.Core.Path.{◌≡◌, refl}
use mathlib.Core.Bool.{Bool, true, false}
use mathlib.Core.List.{List, [], ◌∷◌}
use Prim.Native.Nat.{ℕ}
use borrow.Author.Tests.{ltb-false}
use lib.Dec.{ltb}
use lib.ListN.{length}
use Rattle.text.specs.Text.{pick}
use Rattle.ground.specs.Runs.{ground}
use Rattle.air.specs.Runs.{answered, air_side}
use Rattle.air.specs.declared.call.Call.{Call}
use Rattle.pdu_parts.specs.declared.lists.Listed.{Listed}
use Rattle.sending.specs.Ways.{Way, way}
use Rattle.world.specs.World.{World}
use Rattle.world.specs.AirTurns.{sent_by, goes_on, stays, turn_with, turned}
use Rattle.flight_promises.specs.Flights.{Kept, air_made}
use Rattle.flight_promises.proofs.Keeping.{still, once, kept-all}

kept-turn : (w : World) (n : ℕ) (c : Call) (list : Listed) (s : List ℕ) (x : Way) (b : Bool) → ltb 16 (length x.under) ≡ b
    → Kept w (pick b (stays w) (goes_on w n (answered w.air.link c list s) x)).world [] (pick b [] (record { call = c; list = list; octets = s } ∷ []))
unfolding stays goes_on
kept-turn w n c list s x true e = kept-all w
kept-turn w n c list s x false e =
    record {
      of_ground = λ r. (r, still ground _);
      of_air = λ r. (refl, once air_side w.air.link (record { call = c; list = list; octets = s }));
      no_more = λ h. ltb-false 16 (length x.under) e;
    }

pub kept-air : (w : World) (n : ℕ) (c : Call) (list : Listed) (s : List ℕ) → Kept w (turned w n c list s).world [] (air_made w n c list s)
unfolding turned turn_with air_made
kept-air w n c list s = kept-turn w n c list s (sent_by (answered w.air.link c list s).said (way w.under n)) _ refl
