use Rattle.flight_line.proofs.Short.{longer}
use Rattle.flight_line.proofs.Ways.{first-refuses, second-refuses, none-refuses}
use Rattle.flight_line.specs.Boths.{both_of, elapse_reply}
use Rattle.world.specs.World.{world_of}
use lib.Dec.{lit≤}
use Rattle.flight_line.proofs.both.elapse_both.Goals as goal

pub returns-then-first-ne0 : goal.returns-then-first-ne0
unfolding elapse_reply
returns-then-first-ne0 c = rw (← c.hear_both-b.ensures, first-refuses (world_of c.args.w) (both_of c.hear_both-b.result) c.if-first-ne0.true) c.refuse.ensures

pub returns-then-second-ne0 : goal.returns-then-second-ne0
unfolding elapse_reply
returns-then-second-ne0 c = rw (← c.hear_both-b.ensures, second-refuses (world_of c.args.w) (both_of c.hear_both-b.result) c.if-first-ne0.false c.if-second-ne0.true) c.refuse-then-second-ne0.ensures

pub returns : goal.returns
unfolding elapse_reply
returns c = rw (← c.hear_both-b.ensures, none-refuses (world_of c.args.w) (both_of c.hear_both-b.result) c.if-first-ne0.false c.if-second-ne0.false) (longer (lit≤ tt) c.tell_both.ensures)
