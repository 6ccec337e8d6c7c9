use Rattle.per.proofs.Compose.{when-there, when-absent}
use Rattle.per.proofs.part.Element.read_if.Goals as goal

pub returns-then-present : goal.returns-then-present
returns-then-present g c = when-there _ _ c.if-present.true c.read.ensures

pub returns : goal.returns
returns g c = rw c.none.ensures (when-absent _ _ c.if-present.false)
