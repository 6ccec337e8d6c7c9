use Rattle.per.proofs.Compose.{then, like}
use Rattle.pdu_parts.specs.Reports.{position_c}
use Rattle.pdu_parts.proofs.position.PositionPart.read.Goals as goal

pub returns : goal.returns
unfolding position_c
returns c = like _ _ _ _ (then c.read-latitude.ensures (then c.read-longitude.ensures c.signed-level.ensures))
