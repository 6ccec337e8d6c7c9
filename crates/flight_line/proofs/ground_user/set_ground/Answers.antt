use Rattle.flight_line.specs.GroundUsers.{ground_set, ground_with}
use Rattle.flight_line.proofs.ground_user.set_ground.Goals as goal

pub returns : goal.returns
unfolding ground_set ground_with
returns c = let a = c.answer_line-r.ensures in record { world_is = rw a.box_is; text_is = a.text_is; short = a.short }
