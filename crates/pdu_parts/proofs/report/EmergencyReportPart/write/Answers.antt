use mathlib.Core.Path.{refl}
use Rattle.per.specs.Formats.{field, only}
use Rattle.per.proofs.Inks.{inks-by, inks-like}
use Rattle.pdu_parts.specs.Reports.{emergency_report_c}
use Rattle.pdu_parts.proofs.report.EmergencyReportPart.write.Goals as goal

pub returns : goal.returns
unfolding emergency_report_c field only
returns c = inks-like _ _ _ _ refl (inks-by _ _ c.mask-p.ensures (inks-by _ _ c.write-p.ensures (inks-by _ _ (rw c.present.ensures at c.num_if-p.ensures) (rw c.present-2.ensures at c.write_if.ensures))))
