use Rattle.per.proofs.Compose.{by}
use Rattle.pdu_parts.specs.AirParts.{noncompliance_c}
use Rattle.pdu_parts.proofs.acks.NoncompliancePart.read.Goals as goal

pub returns : goal.returns
unfolding noncompliance_c
returns c = by _ c.index-kind.ensures (rw c.top_of.ensures at c.read_entries-entries.ensures)
