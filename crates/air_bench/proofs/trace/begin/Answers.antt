use mathlib.Core.Path.{refl}
use lib.Dec.{lit≤}
use Rattle.air_bench.specs.Replies.{begun}
use Rattle.air_bench.proofs.trace.begin.Goals as goal

pub returns : goal.returns
unfolding begun
returns c = record { number_is = refl; box_is = rw c.idle_link-link.ensures; text_is = c.put_text-at.ensures; short = lit≤ tt }
