use Rattle.per.specs.Formats.{field}
use Rattle.per.proofs.Inks.{inks-by}
use Rattle.pdu_parts.specs.AirParts.{noncompliance_c}
use Rattle.pdu_parts.proofs.acks.NoncompliancePart.write.Goals as goal

pub returns : goal.returns
unfolding noncompliance_c field
returns c = inks-by _ _ c.index-p.ensures (rw c.top_of.ensures at c.write_entries.ensures)
