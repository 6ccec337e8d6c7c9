use Rattle.flight_line.specs.Boths.{cut_reply}
use Rattle.flight_line.proofs.both.cut_both.Goals as goal

pub returns : goal.returns
unfolding cut_reply
returns c = rw (← c.hear_both-b.ensures) c.tell_both.ensures
