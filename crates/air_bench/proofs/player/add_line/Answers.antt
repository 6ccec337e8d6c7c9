use Rattle.script.proofs.Steps.{added-stands}
use Rattle.air_bench.proofs.player.add_line.Goals as goal

pub returns : goal.returns
returns c = added-stands c.requires c.number_line.ensures
