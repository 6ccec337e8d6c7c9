use Rattle.flight_line.specs.Lines.{refused_line, ended}
use Rattle.flight_line.proofs.Short.{line-short}
use mathlib.Core.List.{[]}
use lib.Dec.{lit≤}
use Rattle.text.proofs.Pages.{after}
use Rattle.flight_line.proofs.line.refuse_line.Goals as goal

pub returns : goal.returns
unfolding refused_line ended
returns c = let f = c.refuse-f.ensures in record { world_is = f.world_is; text_is = after f.text_is c.put_byte.ensures; short = line-short [] (lit≤ tt) f }
