use Rattle.per.proofs.Compose.{then, by, like}
use Rattle.pdu_parts.specs.Vectors.{air_vector_c}
use Rattle.pdu_parts.proofs.vectors.AirVectorPart.read.Goals as goal

pub returns : goal.returns
unfolding air_vector_c
returns c = like _ _ _ _ (by _ c.mask-bits.ensures (then (rw c.present.ensures at c.num_if-heading.ensures) (then (rw c.present-2.ensures at c.read_if-speed.ensures) (rw c.present-3.ensures at c.read_if-rate.ensures))))
