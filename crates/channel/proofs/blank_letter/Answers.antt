use Rattle.channel.specs.Channel.{blank, no_octets}
use mathlib.Core.Path.{refl}
use Rattle.channel.proofs.blank_letter.Goals as goal

pub returns : goal.returns
unfolding blank no_octets
returns c = refl
