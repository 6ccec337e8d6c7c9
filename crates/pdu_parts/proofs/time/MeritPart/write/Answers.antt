use mathlib.Core.Path.{refl}
use Rattle.per.proofs.Inks.{inks-by, inks-like}
use Rattle.pdu_parts.specs.Reports.{merit_c}
use Rattle.pdu_parts.proofs.time.MeritPart.write.Goals as goal

pub returns : goal.returns
unfolding merit_c
returns c = inks-like _ _ _ _ refl (inks-by _ _ c.num-p.ensures (inks-by _ _ c.flag-p.ensures c.flag.ensures))
