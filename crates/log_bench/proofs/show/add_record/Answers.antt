use Rattle.script.proofs.Steps.{added-stands}
use Rattle.log_bench.proofs.show.add_record.Goals as goal

pub returns : goal.returns
returns c = added-stands c.requires.0 c.number_record.ensures
