use Rattle.per.proofs.Compose.{then, by, like, after-ext}
use Rattle.pdu_parts.specs.Reports.{report_c}
use Rattle.pdu_parts.proofs.report.ReportPart.read.Goals as goal

pub returns : goal.returns
unfolding report_c
returns c = like _ _ _ _ (after-ext c.extension.ensures (by _ c.mask-bits.ensures (then c.read-fix.ensures (then (rw c.present.ensures at c.num_if-address.ensures) (then (rw c.present-2.ensures at c.read_if-over_ground.ensures) (then (rw c.present-3.ensures at c.read_if-air.ensures) (rw c.present-4.ensures at c.read_if-weather.ensures)))))))
