use Rattle.per.proofs.Compose.{then, like}
use Rattle.pdu_parts.specs.AirParts.{acked_c}
use Rattle.pdu_parts.proofs.acked.AckedReportPart.read.Goals as goal

pub returns : goal.returns
unfolding acked_c
returns c = like _ _ _ _ (then c.flag-ack.ensures c.read-report.ensures)
