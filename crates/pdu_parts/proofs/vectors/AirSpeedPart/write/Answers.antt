use mathlib.Core.Path.{refl}
use Rattle.per.specs.Formats.{field, only}
use Rattle.per.proofs.Inks.{inks-by, inks-like}
use Rattle.pdu_parts.specs.Vectors.{air_speed_c}
use Rattle.pdu_parts.proofs.vectors.AirSpeedPart.write.Goals as goal

pub returns : goal.returns
unfolding air_speed_c field only
returns c = inks-like _ _ _ _ refl (inks-by _ _ c.index-p.ensures (inks-by _ _ (rw c.has_mach.ensures at c.num_if-p.ensures) (rw c.has_ias.ensures at c.num_if.ensures)))
