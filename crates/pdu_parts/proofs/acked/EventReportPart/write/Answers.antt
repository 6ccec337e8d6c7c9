use mathlib.Core.Path.{refl}
use Rattle.per.proofs.Inks.{inks-by, inks-like, inks-ext}
use Rattle.pdu_parts.specs.AirParts.{event_report_c}
use Rattle.pdu_parts.proofs.acked.EventReportPart.write.Goals as goal

pub returns : goal.returns
unfolding event_report_c
returns c = inks-like _ _ _ _ refl (inks-by _ _ c.flag-p.ensures (inks-by _ _ (inks-ext c.extension-p.ensures c.num-p.ensures) c.write.ensures))
