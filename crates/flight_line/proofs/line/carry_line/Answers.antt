use Rattle.flight_line.proofs.Ways.{carry-unset, carry-none, carry-some}
use Rattle.flight_line.specs.Lines.{count_in}
use Rattle.flight_line.proofs.Short.{carry-short, count_most}
use native.Mathlib.Nat.{le_trans}
use lib.Dec.{lit≤}
use Rattle.text.specs.Letters.{ascii}
use Rattle.text.proofs.Pages.{after}
use Rattle.world.specs.World.{world_of}
use borrow.Author.Tests.{not-true, not-false}
use Prim.Native.Nat.{ℕ, ◌≤◌}
use mathlib.Core.Path.{sym, ap, ◌∙◌}
use Rattle.flight_line.proofs.line.carry_line.Goals as goal

pub returns-then-not-both_ready : goal.returns-then-not-both_ready
returns-then-not-both_ready c = rw (carry-unset (world_of c.args.w) c.args.number c.args.tail.now c.args.hear (sym c.both_ready.ensures ∙ not-true c.both_ready.result c.if-not-both_ready.true-raw)) c.refuse_line.ensures

pub returns-then-k-eq0 : goal.returns-then-k-eq0
returns-then-k-eq0 c = let set = sym c.both_ready.ensures ∙ not-false c.both_ready.result c.if-not-both_ready.false-raw in
    let is = c.count_in-k.ensures ∙ ap (λ (n : ℕ). count_in n c.args.tail.now) c.under_way.ensures.is in
    rw (carry-none (world_of c.args.w) c.args.number c.args.tail.now c.args.hear c.count_in-k.result is set c.if-k-eq0.true) c.refuse_line-then-k-eq0.ensures

pub returns : goal.returns
returns c = let set = sym c.both_ready.ensures ∙ not-false c.both_ready.result c.if-not-both_ready.false-raw in
    let is = c.count_in-k.ensures ∙ ap (λ (n : ℕ). count_in n c.args.tail.now) c.under_way.ensures.is in
    let f = c.carry.ensures in
    let k = c.count_in-k in
    let few : k.result ≤ 17 = rw k.ensures (le_trans (count_most _ _) c.under_way.ensures.most) in
    rw (carry-some (world_of c.args.w) c.args.number c.args.tail.now c.args.hear c.count_in-k.result is set c.if-k-eq0.false) (record { world_is = f.world_is; text_is = after c.put_text-a.ensures f.text_is; short = carry-short k.result few f (ascii "ok\n") (lit≤ tt) })
