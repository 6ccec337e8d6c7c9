use mathlib.Core.Path.{refl}
use Rattle.per.proofs.Inks.{inks-by, inks-then, inks-like, inks-ext}
use Rattle.pdu_parts.specs.AirParts.{negative_c}
use Rattle.pdu_parts.proofs.Entries.{ext-norm}
use Rattle.pdu_parts.proofs.acks.NegativeAckPart.write.Goals as goal

pub returns : goal.returns
unfolding negative_c
returns c = inks-like _ _ _ _ refl (inks-by _ _ (inks-ext c.extension-p.ensures c.num-p.ensures)
    (inks-then _ _ (ext-norm 0 3 _) (inks-ext c.extension-p-2.ensures c.num-p-2.ensures) c.write_if.ensures))
