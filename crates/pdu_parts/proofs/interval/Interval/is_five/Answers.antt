use Rattle.pdu_parts.proofs.interval.Interval.is_five.Goals as goal

pub returns-in-Minutes : goal.returns-in-Minutes
returns-in-Minutes c = rw c.in-Minutes.is
