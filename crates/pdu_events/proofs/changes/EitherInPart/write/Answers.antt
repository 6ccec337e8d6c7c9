use mathlib.Core.Path.{refl}
use Rattle.per.specs.Formats.{field}
use Rattle.per.proofs.Inks.{inks-by, inks-like}
use Rattle.pdu_events.specs.Changes.{either_c}
use Rattle.pdu_events.proofs.changes.EitherInPart.write.Goals as goal

pub returns : goal.returns
unfolding either_c field
returns g c = inks-like _ _ _ _ refl (inks-by _ _ c.index-p.ensures (rw c.top_of.ensures at c.num.ensures))
