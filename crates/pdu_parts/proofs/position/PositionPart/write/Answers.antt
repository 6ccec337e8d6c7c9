use mathlib.Core.Path.{refl}
use Rattle.per.proofs.Inks.{inks-by, inks-like}
use Rattle.pdu_parts.specs.Reports.{position_c}
use Rattle.pdu_parts.proofs.position.PositionPart.write.Goals as goal

pub returns : goal.returns
unfolding position_c
returns c = inks-like _ _ _ _ refl (inks-by _ _ c.write-p.ensures (inks-by _ _ c.write-p-2.ensures c.signed.ensures))
