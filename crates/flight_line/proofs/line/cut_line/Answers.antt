use Rattle.flight_line.proofs.Ways.{cut-more, cut-unset, cut-goes}
use Rattle.flight_line.specs.Lines.{then_lost, ended}
use Rattle.flight_line.proofs.Short.{cut_short}
use Rattle.text.proofs.Pages.{after}
use Rattle.world.specs.World.{world_of}
use borrow.Author.Tests.{not-true, not-false}
use mathlib.Core.Path.{sym, ◌∙◌}
use Rattle.flight_line.proofs.line.cut_line.Goals as goal

pub returns-then-tail-ne0 : goal.returns-then-tail-ne0
returns-then-tail-ne0 c = rw (cut-more (world_of c.args.w) c.args.number c.args.tail.now c.if-tail-ne0.true) c.refuse_line.ensures

pub returns-then-not-both_ready : goal.returns-then-not-both_ready
returns-then-not-both_ready c = rw (cut-unset (world_of c.args.w) c.args.number c.args.tail.now c.if-tail-ne0.false (sym c.both_ready.ensures ∙ not-true c.both_ready.result c.if-not-both_ready.true-raw)) c.refuse_line-then-not-both_ready.ensures

pub returns : goal.returns
unfolding then_lost ended
returns c = let f = c.cut_both-f.ensures in
    let k = c.carry.ensures in
    rw (cut-goes (world_of c.args.w) c.args.number c.args.tail.now c.if-tail-ne0.false (sym c.both_ready.ensures ∙ not-false c.both_ready.result c.if-not-both_ready.false-raw), ← f.world_is, ← c.under_way.ensures.is)
    (record { world_is = k.world_is; text_is = after (after f.text_is c.put_byte-e.ensures) k.text_is; short = cut_short c.under_way.result c.under_way.ensures.most k f })
