use Rattle.per.proofs.Compose.{then, by, like}
use Rattle.pdu_parts.specs.Vectors.{air_speed_c}
use Rattle.pdu_parts.proofs.vectors.AirSpeedPart.read.Goals as goal

pub returns : goal.returns
unfolding air_speed_c
returns c = like _ _ _ _ (by _ c.index-kind.ensures (then (rw c.has_mach.ensures at c.num_if-mach.ensures) (rw c.has_ias.ensures at c.num_if-ias.ensures)))
