use Rattle.per.specs.Bits.{of_bit}
use Rattle.per.proofs.pen.bit_of.Goals as goal

pub returns-then-b : goal.returns-then-b
unfolding of_bit
returns-then-b c = rw c.if-b.true

pub returns-else-b : goal.returns-else-b
unfolding of_bit
returns-else-b c = rw c.if-b.false
