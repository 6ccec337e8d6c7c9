use mathlib.Core.Path.{◌≡◌, refl, sym, ap, ◌∙◌}
use native.Mathlib.Omega.{arith}
use Rattle.std.proofs.Common.{rules}
use lib.ListN.{take, drop}
use Prim.Native.Nat.{◌-◌}
use Rattle.std.specs.Prelude.{Some, None, Ok}
use Rattle.script.specs.Trace.{bumped}
use Rattle.bench.specs.declared.reply.Setup.{Setup}
use Rattle.log_blocks.specs.Places.{found_at}
use Rattle.log_blocks.specs.Record.{rec}
use Rattle.log_blocks.proofs.Walks.{walk-on}
use Rattle.log_play.specs.Plays.{stepped_by}
use Rattle.log_play.proofs.Walks.{data-place}
use Rattle.log_bench.specs.Shown.{record_reply}
use Rattle.log_bench.proofs.Showing.{shows-end, shows-unreadable, data-few, shows-record}
use Rattle.log_bench.proofs.show.show_block.Goals as goal
use Rattle.log_bench.proofs.show.show_block.Goals.{In-Ok-Some}

found : (c : In-Ok-Some) → found_at c.args.block.now c.loop-r.at ≡ Ok (Some c.in-Ok-Some.r)
found c = sym c.record_at.ensures ∙ (c.in-Ok-Some.is ∙ ap Ok c.in-Ok-Some.field-0-is)

pub loop-r-init : goal.loop-r-init
loop-r-init c = (omega arith, refl, λ n s d. d)

pub slice_bounds-add_record-count : goal.slice_bounds-add_record-count
slice_bounds-add_record-count c = omega (arith, data-place _ _ _ (found (goal.at.slice_bounds-add_record-count c).In-Ok-Some))

pub slice_bounds-add_record-start : goal.slice_bounds-add_record-start
slice_bounds-add_record-start c = omega (arith, data-place _ _ _ (found (goal.at.slice_bounds-add_record-start c).In-Ok-Some))

pub slice_bounds-add_record-end : goal.slice_bounds-add_record-end
slice_bounds-add_record-end c =
    omega (arith, walk-on _ _ c.requires.0 c.requires.1 _ (found (goal.at.slice_bounds-add_record-end c).In-Ok-Some), c.requires.0)

pub add_record-e-requires : goal.add_record-e-requires
add_record-e-requires c = let q = c.loop-r in (
  omega (arith, c.turn_page-e.ensures.room, q.invariant.1, c.requires.2),
  data-few _ q.at c.requires.0 c.requires.1 q.e.number q.e.setup _ (found (goal.at.add_record-e-requires c).In-Ok-Some),
)

pub loop-r-smaller : goal.loop-r-smaller
loop-r-smaller c = omega (arith, walk-on _ _ c.requires.0 c.requires.1 _ (found (goal.at.loop-r-smaller c).In-Ok-Some))

pub loop-r-preserved : goal.loop-r-preserved
unfolding record_reply
loop-r-preserved c = let q = c.loop-r in
    let bl = c.args.block.now in
    let f = c.in-Ok-Some.r in
    let e = found (goal.at.loop-r-preserved c).In-Ok-Some in
    let t = c.turn_page-e.ensures in
    let a = c.add_record-e.ensures in
    let r = rec f.kind f.seconds (take (f.next - f.start) (drop f.start bl)) in (
      (walk-on bl q.at c.requires.0 c.requires.1 _ e).1,
      c.add_record-e.auto.out ∙ q.invariant.1,
      λ n s d. q.invariant.2 n s (shows-record bl q.at c.requires.0 c.requires.1 q.e.number q.e.setup _ e _ n _ s (a.number_is ∙ ap bumped t.number_is) (a.box_is ∙ ap (λ (u : Setup). (stepped_by u r).setup) t.box_is) d),
    )

pub returns-in_default : goal.returns-in_default
returns-in_default c = let q = c.loop-r in
    let n : c.in_default.field-0 ≡ None = search rules in
    q.invariant.2 _ _ (shows-end c.args.block.now q.at c.requires.0 c.requires.1 _ _ (sym c.record_at.ensures ∙ (c.in_default.is ∙ ap Ok n)))

pub returns-in_default-2 : goal.returns-in_default-2
returns-in_default-2 c = let q = c.loop-r in
    q.invariant.2 _ _ (shows-unreadable c.args.block.now q.at c.requires.0 c.requires.1 _ _ _ _ (sym c.record_at.ensures ∙ c.in_default.is))
