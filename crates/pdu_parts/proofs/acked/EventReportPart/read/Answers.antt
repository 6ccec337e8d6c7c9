use Rattle.per.proofs.Compose.{then, like, after-ext}
use Rattle.pdu_parts.specs.AirParts.{event_report_c}
use Rattle.pdu_parts.proofs.acked.EventReportPart.read.Goals as goal

pub returns : goal.returns
unfolding event_report_c
returns c = like _ _ _ _ (then c.flag-ack.ensures (then (after-ext c.extension.ensures c.num-event.ensures) c.read-report.ensures))
