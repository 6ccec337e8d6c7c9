use Rattle.per.specs.Formats.{has}
-- src/cursor.rt:88:1
use Rattle.std.proofs.Common.{rules}
use Rattle.per.proofs.cursor.present.Goals as goal

pub returns : goal.returns
unfolding has
returns c = search rules
