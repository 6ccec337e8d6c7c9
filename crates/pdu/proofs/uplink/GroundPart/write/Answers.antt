use Rattle.per.proofs.Inks.{inks-ext, inks-choice}
use Rattle.pdu.specs.UplinkTable.{ground_c}
use Rattle.pdu.proofs.uplink.GroundPart.write.Goals as goal

pub returns : goal.returns
unfolding ground_c
returns c = inks-ext c.extension-p.ensures (inks-choice _ _ _ (rw c.index_of.ensures at c.index-p.ensures) c.write_fields.ensures)
