use Rattle.air_answer.specs.Sent.{sent}
use mathlib.Core.Path.{refl}
use Rattle.air_answer.proofs.sent.nothing.Goals as goal

pub returns : goal.returns
unfolding sent
returns c = refl
