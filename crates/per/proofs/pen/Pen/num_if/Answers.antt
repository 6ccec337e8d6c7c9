use Rattle.per.specs.Formats.{num}
use Rattle.per.proofs.Inks.{inks-there, inks-absent}
use Rattle.per.proofs.pen.Pen.num_if.Goals as goal

pub returns-then-present : goal.returns-then-present
returns-then-present c = inks-there _ _ _ c.if-present.true c.num.ensures

pub returns : goal.returns
returns c = inks-absent (num _ _) _ _ _ c.if-present.false
