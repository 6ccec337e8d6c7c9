use Rattle.flight_line.proofs.Ways.{elapse-unset, elapse-goes}
use Rattle.flight_line.specs.Lines.{elapse_line, ended}
use Rattle.flight_line.proofs.Short.{line-short}
use mathlib.Core.List.{[]}
use lib.Dec.{lit≤}
use Rattle.text.proofs.Pages.{after}
use Rattle.world.specs.World.{world_of}
use borrow.Author.Tests.{not-true, not-false}
use mathlib.Core.Path.{sym, ◌∙◌}
use Rattle.flight_line.proofs.line.elapse_line.Goals as goal

pub returns-in_default : goal.returns-in_default
unfolding elapse_line
returns-in_default c = rw (← c.number_after.ensures, c.in_default.is) c.refuse_line.ensures

pub returns-then-not-both_ready : goal.returns-then-not-both_ready
returns-then-not-both_ready c = rw (← c.number_after.ensures, c.in-Some.is, elapse-unset (world_of c.args.w) _ (sym c.both_ready.ensures ∙ not-true c.both_ready.result c.if-not-both_ready.true-raw)) c.refuse_line-then-not-both_ready.ensures

pub returns : goal.returns
unfolding ended
returns c = let f = c.elapse_both-f.ensures in rw (← c.number_after.ensures, c.in-Some.is, elapse-goes (world_of c.args.w) _ (sym c.both_ready.ensures ∙ not-false c.both_ready.result c.if-not-both_ready.false-raw)) (record { world_is = f.world_is; text_is = after f.text_is c.put_byte.ensures; short = line-short [] (lit≤ tt) f })
