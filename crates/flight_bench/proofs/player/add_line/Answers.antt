use Rattle.flight_bench.proofs.Stands.{added-stands}
use Rattle.flight_bench.proofs.player.add_line.Goals as goal

pub returns : goal.returns
returns c = added-stands c.requires c.number_line.ensures
