use Rattle.per.proofs.Compose.{then, by, like}
use Rattle.pdu_parts.specs.Reports.{emergency_report_c}
use Rattle.pdu_parts.proofs.report.EmergencyReportPart.read.Goals as goal

pub returns : goal.returns
unfolding emergency_report_c
returns c = like _ _ _ _ (by _ c.mask-bits.ensures (then c.read-fix.ensures (then (rw c.present.ensures at c.num_if-address.ensures) (rw c.present-2.ensures at c.read_if-over_ground.ensures))))
