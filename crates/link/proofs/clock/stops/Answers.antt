use mathlib.Core.Path.{◌∙◌}
use native.Mathlib.Numerals.{add-one}
use Rattle.link.specs.Clock.{stops_of}
use Rattle.link.specs.Acts.{pushed_all}
use Rattle.link.proofs.Laws.{pushed-append, pushed-one}
use Rattle.link.proofs.clock.stops.Goals as goal

pub loop-t-init : goal.loop-t-init
unfolding stops_of pushed_all
loop-t-init c = c.none-a.ensures

pub loop-t-preserved : goal.loop-t-preserved
unfolding stops_of
loop-t-preserved c = c.push_when-a.ensures ∙ rw (c.loop-t.invariant, add-one, pushed-append, pushed-one)
