use Rattle.flight_line.specs.Lines.{ground_line, ended}
use Rattle.flight_line.proofs.Short.{line-short}
use lib.Dec.{lit≤}
use Rattle.text.specs.Letters.{ascii}
use Rattle.text.proofs.Pages.{after}
use Rattle.flight_line.proofs.line.ground_line.Goals as goal

pub returns : goal.returns
unfolding ground_line ended
returns c = let f = c.use_ground-f.ensures in rw (← c.rest_of.ensures) (record { world_is = f.world_is; text_is = after (after c.put_text-a.ensures f.text_is) c.put_byte.ensures; short = line-short (ascii "ground ") (lit≤ tt) f })
