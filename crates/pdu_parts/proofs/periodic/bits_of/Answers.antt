use Rattle.pdu_parts.specs.Interval.{sent_bits}
use Rattle.pdu_parts.proofs.periodic.bits_of.Goals as goal

pub returns-then-five : goal.returns-then-five
unfolding sent_bits
returns-then-five c = rw c.if-five.true

pub returns-else-five : goal.returns-else-five
unfolding sent_bits
returns-else-five c = rw c.if-five.false
