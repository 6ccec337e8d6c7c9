-- What a call of the ground keeps. Assumes nothing.
use mathlib.Core.Path.{◌≡◌, refl}
use mathlib.Core.Bool.{Bool, true, false}
use mathlib.Core.List.{List, [], ◌∷◌}
use Prim.Native.Nat.{ℕ}
use borrow.Author.Tests.{ltb-false}
use lib.Dec.{ltb}
use lib.ListN.{length}
use Rattle.text.specs.Text.{pick}
use Rattle.ground.specs.Runs.{answered, ground}
use Rattle.air.specs.Runs.{air_side}
use Rattle.ground.specs.declared.call.Call.{Call}
use Rattle.sending.specs.Ways.{Way, way}
use Rattle.world.specs.World.{World}
use Rattle.world.specs.GroundTurns.{sent_by, goes_on, stays, turn_with, turned}
use Rattle.flight_promises.specs.Flights.{Kept, ground_made}
use Rattle.flight_promises.proofs.Keeping.{still, once, kept-all}

kept-turn : (w : World) (c : Call) (s : List ℕ) (x : Way) (b : Bool) → ltb 16 (length x.under) ≡ b
    → Kept w (pick b (stays w) (goes_on w (answered w.ground_end.link c s) x)).world (pick b [] (record { call = c; octets = s } ∷ [])) []
unfolding stays goes_on
kept-turn w c s x true e = kept-all w
kept-turn w c s x false e =
    record {
      of_ground = λ r. (refl, once ground w.ground_end.link (record { call = c; octets = s }));
      of_air = λ r. (r, still air_side _);
      no_more = λ h. ltb-false 16 (length x.under) e;
    }

pub kept-ground : (w : World) (c : Call) (s : List ℕ) → Kept w (turned w c s).world (ground_made w c s) []
unfolding turned turn_with ground_made
kept-ground w c s = kept-turn w c s (sent_by (answered w.ground_end.link c s).said (way w.under w.last)) _ refl
