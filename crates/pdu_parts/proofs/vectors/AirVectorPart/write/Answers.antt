use mathlib.Core.Path.{refl}
use Rattle.per.specs.Formats.{field, only}
use Rattle.per.proofs.Inks.{inks-by, inks-like}
use Rattle.pdu_parts.specs.Vectors.{air_vector_c}
use Rattle.pdu_parts.proofs.vectors.AirVectorPart.write.Goals as goal

pub returns : goal.returns
unfolding air_vector_c field only
returns c = inks-like _ _ _ _ refl (inks-by _ _ c.mask-p.ensures (inks-by _ _ (rw c.present.ensures at c.num_if-p.ensures) (inks-by _ _ (rw c.present-2.ensures at c.write_if-p.ensures) (rw c.present-3.ensures at c.write_if.ensures))))
