use mathlib.Core.Path.{ap, ◌∙◌}
use Rattle.air.specs.Endings.{reason_of}
use Rattle.air.proofs.endings.reason_of.Goals as goal

pub returns-in_default : goal.returns-in_default
unfolding reason_of
returns-in_default c = ap reason_of c.in_default.ensures

pub returns : goal.returns
unfolding reason_of
returns c = c.reason_in.ensures ∙ ap reason_of c.in-Ok.ensures
