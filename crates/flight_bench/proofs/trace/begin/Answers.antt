use Rattle.flight_bench.specs.Trace.{begun}
use Rattle.air_bench.specs.Replies as air
use Rattle.bench.specs.Replies as ground
use lib.Dec.{lit≤}
use mathlib.Core.Path.{refl}
use Rattle.flight_bench.proofs.trace.begin.Goals as goal

pub returns : goal.returns
unfolding begun ground.begun air.begun
returns c = record { number_is = refl; world_is = rw (c.empty.ensures, c.idle_link-2.ensures, c.idle_link.ensures); text_is = c.put_text-at.ensures; short = lit≤ tt }
