use mathlib.Core.Path.{refl}
use Rattle.per.specs.Formats.{field}
use Rattle.per.proofs.Inks.{inks-by, inks-like}
use Rattle.pdu_events.specs.Changes.{level_range_c}
use Rattle.pdu_events.proofs.changes.LevelRangePart.write.Goals as goal

pub returns : goal.returns
unfolding level_range_c field
returns c = inks-like _ _ _ _ refl (inks-by _ _ c.signed-p.ensures c.signed.ensures)
