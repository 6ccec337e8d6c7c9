use Rattle.flight_line.specs.Users.{refused}
use mathlib.Core.Path.{refl}
use native.Mathlib.Nat.{le_trans}
use lib.Dec.{lit≤}
use Rattle.text.proofs.Lengths.{refused-length}
use Rattle.flight_line.proofs.user.refuse.Goals as goal

pub returns : goal.returns
unfolding refused
returns c = record { world_is = refl; text_is = c.put_refused-a.ensures; short = le_trans (refused-length _) (lit≤ tt) }
