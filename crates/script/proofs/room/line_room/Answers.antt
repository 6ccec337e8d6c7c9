use mathlib.Core.Path.{refl}
use Rattle.script.specs.Rooms.{zeros}
use Rattle.script.proofs.room.line_room.Goals as goal

pub returns : goal.returns
unfolding zeros
returns c = refl
