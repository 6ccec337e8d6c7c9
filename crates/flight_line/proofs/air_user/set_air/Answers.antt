use Rattle.flight_line.specs.AirUsers.{air_set, air_with}
use Rattle.flight_line.proofs.air_user.set_air.Goals as goal

pub returns : goal.returns
unfolding air_set air_with
returns c = let a = c.answer_line-r.ensures in record { world_is = rw a.box_is; text_is = a.text_is; short = a.short }
