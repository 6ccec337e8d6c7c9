use Rattle.channel.specs.Channel.{held_in}
use mathlib.Core.Path.{refl}
use Rattle.channel.proofs.empty.Goals as goal

pub returns : goal.returns
unfolding held_in
returns c = refl
