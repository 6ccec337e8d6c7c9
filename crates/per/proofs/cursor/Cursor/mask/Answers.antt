use mathlib.Core.Path.{refl}
use Rattle.per.specs.Formats.{field}
use Rattle.per.proofs.Compose.{only-settled}
use Rattle.per.proofs.cursor.Cursor.mask.Goals as goal

pub returns : goal.returns
unfolding field
returns c = rw c.settle.ensures (only-settled _ _ _ c.num-t.ensures refl c.mask_bad.ensures)
