use mathlib.Core.Path.{refl}
use Rattle.link.specs.Acts.{acts}
use Rattle.link.proofs.acts.Acts.none.Goals as goal

pub returns : goal.returns
unfolding acts
returns c = refl
