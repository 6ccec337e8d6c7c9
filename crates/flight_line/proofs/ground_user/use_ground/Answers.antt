use Rattle.flight_line.proofs.Ways.{ground-other, ground-asks, ground-sets}
use Rattle.world.specs.World.{world_of}
use borrow.Author.Tests.{not-true, not-false}
use mathlib.Core.Path.{sym, ◌∙◌}
use Rattle.flight_line.proofs.ground_user.use_ground.Goals as goal

pub returns-then-not-is_user : goal.returns-then-not-is_user
returns-then-not-is_user c = rw (ground-other (world_of c.args.w) c.args.line.now (sym c.is_user.ensures ∙ not-true c.is_user.result c.if-not-is_user.true-raw)) c.refuse.ensures

pub returns-then-w : goal.returns-then-w
returns-then-w c = rw (ground-asks (world_of c.args.w) c.args.line.now (sym c.is_user.ensures ∙ not-false c.is_user.result c.if-not-is_user.false-raw) c.if-w.true) c.ask_ground.ensures

pub returns : goal.returns
returns c = rw (ground-sets (world_of c.args.w) c.args.line.now (sym c.is_user.ensures ∙ not-false c.is_user.result c.if-not-is_user.false-raw) c.if-w.false) c.set_ground.ensures
