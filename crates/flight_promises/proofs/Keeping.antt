-- One step after another. Assumes nothing.
use mathlib.Core.Path.{◌≡◌, refl, ap, ◌∙◌}
use mathlib.Core.Bool.{Bool, true, false}
use mathlib.Core.List.{List, [], ◌∷◌, ◌++◌}
use native.Mathlib.Omega.{arith}
use lib.ListN.{length-drop}
use Rattle.text.specs.Text.{pick}
use Rattle.sides.specs.Runs.{Side, after}
use Rattle.ground.specs.Runs as ground
use Rattle.air.specs.Runs as air
use Rattle.world.specs.World.{World}
use Rattle.delivery.specs.Deliveries.{without}
use Rattle.flight_promises.specs.Flights.{Kept}

after_more : (s : Side) (r : s.Rec) (a b : List s.Call) → after s (after s r a) b ≡ after s r (a ++ b)
unfolding after
after_more s r [] b = refl
after_more s r (c ∷ a) b = after_more s (s.next (s.reply r c)) a b

after_then : (s : Side) (r q p : s.Rec) (a b : List s.Call) → q ≡ after s r a → p ≡ after s q b → p ≡ after s r (a ++ b)
after_then s r q p a b e f = f ∙ ap (λ (x : s.Rec). after s x b) e ∙ after_more s r a b

-- no call
pub still : (s : Side) (r : s.Rec) → r ≡ after s r []
unfolding after
still s r = refl

pub once : (s : Side) (r : s.Rec) (c : s.Call) → s.next (s.reply r c) ≡ after s r (c ∷ [])
unfolding after
once s r c = refl

pub kept-all : (w : World) → Kept w w [] []
kept-all w = record { of_ground = λ r. (r, still ground.ground _); of_air = λ r. (r, still air.air_side _); no_more = λ h. h }

pub kept_then : {w v u : World} {gs hs : List ground.Made} {cs ds : List air.Made} → Kept w v gs cs → Kept v u hs ds → Kept w u (gs ++ hs) (cs ++ ds)
kept_then {gs = gs} {hs = hs} {cs = cs} {ds = ds} a b =
    record {
      of_ground = λ r. let x = a.of_ground r in let y = b.of_ground x.0 in (y.0, after_then ground.ground _ _ _ gs hs x.1 y.1);
      of_air = λ r. let x = a.of_air r in let y = b.of_air x.0 in (y.0, after_then air.air_side _ _ _ cs ds x.1 y.1);
      no_more = λ h. b.no_more (a.no_more h);
    }

-- with no call behind
pub kept_on : {w v u : World} {gs : List ground.Made} {cs : List air.Made} → Kept w v gs cs → Kept v u [] [] → Kept w u gs cs
unfolding after
kept_on a b =
    record {
      of_ground = λ r. let x = a.of_ground r in let y = b.of_ground x.0 in (y.0, y.1 ∙ x.1);
      of_air = λ r. let x = a.of_air r in let y = b.of_air x.0 in (y.0, y.1 ∙ x.1);
      no_more = λ h. b.no_more (a.no_more h);
    }

-- what leads to a world that is kept, and one of two such, by a test
pub record Leads {X : Type 0} (to : X → World) (w : World) (x : X) (gs : List ground.Made) (cs : List air.Made) : Type 0 where
  pub kept : Kept w (to x) gs cs

module _ {X : Type 0} {to : X → World} {w : World} {x y : X} where
  pub either : (b : Bool) {gs hs : List ground.Made} {cs ds : List air.Made} → (b ≡ true → Leads to w x gs cs) → (b ≡ false → Leads to w y hs ds)
      → Leads to w (pick b x y) (pick b gs hs) (pick b cs ds)
  either true p q = p refl
  either false p q = q refl

  -- with the same calls
  pub both_ways : (b : Bool) {gs : List ground.Made} {cs : List air.Made} → Leads to w x gs cs → Leads to w y gs cs → Leads to w (pick b x y) gs cs
  both_ways true p q = p
  both_ways false p q = q

-- the oldest letter goes
pub kept-without : (w : World) → Kept w (without w) [] []
unfolding without
kept-without w =
    record {
      of_ground = λ r. (r, still ground.ground _);
      of_air = λ r. (r, still air.air_side _);
      no_more = λ h. rw (length-drop 1 w.under) (omega arith);
    }
