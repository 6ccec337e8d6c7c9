use Rattle.delivery.specs.Hearing.{came_to}
use mathlib.Core.Path.{refl}
use Rattle.delivery.proofs.hear.say.Goals as goal

pub returns : goal.returns
unfolding came_to
returns c = record { world_is = refl; stays_is = refl; text_is = c.put_text-a.ensures; short = c.requires }
