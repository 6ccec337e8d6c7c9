use Rattle.per.proofs.Compose.{then, like}
use Rattle.pdu_parts.specs.Reports.{merit_c}
use Rattle.pdu_parts.proofs.time.MeritPart.read.Goals as goal

pub returns : goal.returns
unfolding merit_c
returns c = like _ _ _ _ (then c.num-accuracy.ensures (then c.flag-units.ensures c.flag-avoidance.ensures))
