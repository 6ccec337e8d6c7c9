use mathlib.Core.Path.{refl}
use Rattle.text.proofs.Lengths.{refused-length}
use native.Mathlib.Nat.{le_trans}
use lib.Dec.{lit≤}
use Rattle.air_bench.proofs.reply.refuse_line.Goals as goal

pub returns : goal.returns
returns c = record { box_is = refl; text_is = c.put_refused-a.ensures; short = le_trans (refused-length _) (lit≤ tt) }
