use mathlib.Core.Path.{refl}
use Rattle.log_play.specs.Plays.{played_in}
use Rattle.log_play.proofs.block.unplayed.Goals as goal

pub returns : goal.returns
unfolding played_in
returns c = refl
