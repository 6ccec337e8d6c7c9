use Rattle.flight_line.specs.Lines.{air_line, ended}
use Rattle.flight_line.proofs.Short.{line-short}
use lib.Dec.{lit≤}
use Rattle.text.specs.Letters.{ascii}
use Rattle.text.proofs.Pages.{after}
use Rattle.flight_line.proofs.line.air_line.Goals as goal

pub returns : goal.returns
unfolding air_line ended
returns c = let f = c.use_air-f.ensures in rw (← c.rest_of.ensures) (record { world_is = f.world_is; text_is = after (after c.put_text-a.ensures f.text_is) c.put_byte.ensures; short = line-short (ascii "air ") (lit≤ tt) f })
