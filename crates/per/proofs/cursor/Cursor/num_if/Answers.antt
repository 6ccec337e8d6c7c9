use Rattle.per.proofs.Compose.{when-there, when-absent}
use Rattle.per.proofs.cursor.Cursor.num_if.Goals as goal

pub returns-then-present : goal.returns-then-present
returns-then-present c = when-there _ _ c.if-present.true c.num.ensures

pub returns : goal.returns
returns c = when-absent _ _ c.if-present.false
