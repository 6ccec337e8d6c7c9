use mathlib.Core.Path.{refl}
use Rattle.per.specs.Formats.{field}
use Rattle.per.proofs.Inks.{inks-by, inks-like}
use Rattle.pdu_parts.specs.Reports.{angle_c}
use Rattle.pdu_parts.proofs.position.AngleToPart.write.Goals as goal

pub returns : goal.returns
unfolding angle_c field
returns g c = inks-like _ _ _ _ refl (inks-by _ _ c.flag-p.ensures (inks-by _ _ c.num-p.ensures (inks-by _ _ c.num-p-2.ensures c.num.ensures)))
