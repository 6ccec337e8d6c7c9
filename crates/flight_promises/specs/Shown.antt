-- No end of a flight ever aborts for reason 2, "invalid PDU" (01, abort reasons): over the reasons that the ends' answers show on its lines. An abort of an end's
-- own and one from below show theirs, and every other answer has 0.
use Rattle.std.specs.Prelude.{◌≡◌, Bool, true, not, List, [], ◌∷◌, ℕ, eqb}
use Rattle.text.specs.Text.{both}
use Rattle.pdu.specs.Reasons.{INVALID-PDU}
use Rattle.world.specs.World.{World}
use Rattle.world.specs.GroundTurns as to_ground
use Rattle.world.specs.AirTurns as to_air
use Rattle.flight_line.specs.Lines.{world_on}
use Rattle.flight_promises.specs.Fitting.{all_fit}
use Rattle.flight_promises.specs.Told.{Tell, told_on}

-- the reason of an end's answer
abbrev pub reasons : Tell ℕ
reasons =
    record {
      for_ground = λ w c s. (to_ground.turned w c s).said.reason ∷ [];
      for_air = λ w n c list s. (to_air.turned w n c list s).said.reason ∷ [];
    }

-- none of them is 2
abbrev pub none_invalid : List ℕ → Bool
none_invalid [] = true
none_invalid (r ∷ rs) = both (not (eqb r INVALID-PDU)) (none_invalid rs)

-- in the world v what is under way fits, and no answer on the way there showed 2
pub record Fair (v : World) (shown : List ℕ) : Type 0 where
  pub fits : all_fit v.under ≡ true
  pub valid : none_invalid shown ≡ true

-- after any lines of a flight that begins with nothing under way, though letters be lost or the link be cut
abbrev pub NeverInvalid : Type 0
NeverInvalid = (n : ℕ) (w : World) (lines : List (List ℕ)) → w.under ≡ [] → Fair (world_on n w lines) (told_on reasons n w lines)
