use mathlib.Core.Path.{refl}
use Rattle.per.specs.Formats.{field, only}
use Rattle.per.proofs.Inks.{inks-by, inks-like, inks-ext}
use Rattle.pdu_parts.specs.Reports.{report_c}
use Rattle.pdu_parts.proofs.report.ReportPart.write.Goals as goal

pub returns : goal.returns
unfolding report_c field only
returns c = inks-like _ _ _ _ refl (inks-ext c.extension-p.ensures (inks-by _ _ c.mask-p.ensures (inks-by _ _ c.write-p.ensures (inks-by _ _ (rw c.present.ensures at c.num_if-p.ensures) (inks-by _ _ (rw c.present-2.ensures at c.write_if-p.ensures) (inks-by _ _ (rw c.present-3.ensures at c.write_if-p-2.ensures) (rw c.present-4.ensures at c.write_if.ensures)))))))
