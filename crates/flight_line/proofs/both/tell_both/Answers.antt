use Rattle.flight_line.specs.Boths.{both_text}
use Rattle.flight_line.proofs.Short.{both-short}
use mathlib.Core.Path.{refl}
use lib.Dec.{lit≤}
use Rattle.text.proofs.Pages.{after}
use Rattle.flight_line.proofs.both.tell_both.Goals as goal

pub returns : goal.returns
unfolding both_text
returns c = record { world_is = refl; text_is = after c.put_text-a.ensures (after c.put_ground-e.ensures.text_is (after c.put_text-c.ensures c.put_air.ensures.text_is)); short = both-short c.put_ground-e.ensures c.put_air.ensures (lit≤ tt) (lit≤ tt) }
