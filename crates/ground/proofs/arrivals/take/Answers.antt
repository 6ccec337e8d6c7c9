use mathlib.Core.Path.{ap, ◌∙◌}
use Rattle.ground.specs.Arrivals.{passed, taken}
use Rattle.ground.proofs.arrivals.take.Goals as goal

pub returns-in_default : goal.returns-in_default
unfolding taken
returns-in_default c = c.abort.ensures ∙ ap (taken c.args.l) c.in_default.ensures

pub returns : goal.returns
unfolding taken
returns c = c.pass.ensures ∙ ap (passed c.args.l) c.air_event.ensures ∙ ap (taken c.args.l) c.in-Ok.ensures
