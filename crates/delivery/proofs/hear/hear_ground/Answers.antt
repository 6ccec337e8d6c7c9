use Rattle.delivery.proofs.Laws.{ground-over, ground-told}
use Rattle.delivery.proofs.Short.{came-short}
use Rattle.delivery.specs.Hearing.{ground_said}
use Rattle.world.specs.World.{world_of}
use borrow.Author.Tests.{not-true, not-false}
use lib.ListN.{length}
use mathlib.Core.Path.{◌≡◌, refl, sym, ◌∙◌}
use Rattle.std.proofs.Common.{rules}
use Rattle.delivery.proofs.hear.hear_ground.Goals as goal

pub returns-then-not-is_heard : goal.returns-then-not-is_heard
returns-then-not-is_heard c = rw (ground-over (world_of c.args.w) c.args.l (sym c.is_heard.ensures ∙ not-true c.is_heard.result c.if-not-is_heard.true-raw)) c.say.ensures

pub returns : goal.returns
unfolding ground_said
returns c = let whole : length c.args.l.octets ≡ 115 = search rules in
    let t = c.turn_ground-t in
    let h = c.is_heard in
    rw (ground-told (world_of c.args.w) c.args.l (sym h.ensures ∙ not-false h.result c.if-not-is_heard.false-raw), ← c.came-octets.ensures, ← c.call_for.ensures, ← t.ensures)
    (record { world_is = refl; stays_is = refl; text_is = c.put_ground-a.ensures.text_is; short = c.put_ground-a.ensures.short (rw c.came-octets.ensures (came-short c.args.l whole)) })
