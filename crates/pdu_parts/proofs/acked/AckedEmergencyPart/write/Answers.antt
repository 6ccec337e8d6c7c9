use mathlib.Core.Path.{refl}
use Rattle.per.proofs.Inks.{inks-by, inks-like}
use Rattle.pdu_parts.specs.AirParts.{acked_emergency_c}
use Rattle.pdu_parts.proofs.acked.AckedEmergencyPart.write.Goals as goal

pub returns : goal.returns
unfolding acked_emergency_c
returns c = inks-like _ _ _ _ refl (inks-by _ _ c.flag.ensures c.write.ensures)
