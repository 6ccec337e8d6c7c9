use Rattle.delivery.proofs.Laws.{comes-air, comes-ground}
use Rattle.world.specs.World.{world_of}
use Rattle.delivery.specs.Hearing.{comes}
use borrow.Author.Tests.{not-true, not-false}
use Rattle.delivery.proofs.hear.come.Goals as goal

pub returns-then-not-hear : goal.returns-then-not-hear
unfolding comes
returns-then-not-hear c = rw (not-true c.args.hear c.if-not-hear.true-raw) c.say.ensures

pub returns-then-l : goal.returns-then-l
returns-then-l c = rw (not-false c.args.hear c.if-not-hear.false-raw, comes-air (world_of c.args.w) c.args.l c.if-l.true) c.hear_air.ensures

pub returns : goal.returns
returns c = rw (not-false c.args.hear c.if-not-hear.false-raw, comes-ground (world_of c.args.w) c.args.l c.if-l.false) c.hear_ground.ensures
