use mathlib.Core.Path.{refl}
use Rattle.per.specs.Formats.{field}
use Rattle.per.proofs.Inks.{inks-by, inks-like}
use Rattle.pdu_parts.specs.Reports.{time_c}
use Rattle.pdu_parts.proofs.time.TimePart.write.Goals as goal

pub returns : goal.returns
unfolding time_c field
returns c = inks-like _ _ _ _ refl (inks-by _ _ c.num-p.ensures (inks-by _ _ c.num-p-2.ensures (inks-by _ _ c.num-p-3.ensures (inks-by _ _ c.flag-p.ensures
    (inks-by _ _ c.num-p-4.ensures (inks-by _ _ c.num-p-5.ensures c.num_if.ensures))))))
