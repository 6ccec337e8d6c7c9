use Rattle.per.proofs.Inks.{inks-there, inks-absent}
use Rattle.per.proofs.part.Element.write_if.Goals as goal

pub returns-then-present : goal.returns-then-present
returns-then-present g c = inks-there _ _ _ c.if-present.true c.write.ensures

pub returns : goal.returns
returns g c = inks-absent _ _ _ _ c.if-present.false
