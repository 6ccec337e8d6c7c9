use mathlib.Core.Path.{◌≡◌, refl, sym, ap, ◌∙◌}
use native.Mathlib.Omega.{arith}
use borrow.Author.Tests.{not-true, not-false}
use Rattle.std.specs.Prelude.{Some, Ok}
use Rattle.log_blocks.specs.Places.{found_at}
use Rattle.log_blocks.proofs.Walks.{walk-on}
use Rattle.log_play.proofs.Walks.{data-place, turn_end, turn-unreadable, turn-stays, turn-goes}
use Rattle.log_play.proofs.block.walk.Goals as goal
use Rattle.log_play.proofs.block.walk.Goals.{In-Ok-Some}

found : (c : In-Ok-Some) → found_at c.args.block.now c.loop-r.at ≡ Ok (Some c.in-Ok-Some.r)
found c = sym c.record_at.ensures ∙ (c.in-Ok-Some.is ∙ ap Ok c.in-Ok-Some.field-0-is)

pub loop-r-init : goal.loop-r-init
loop-r-init c = (omega arith, refl)

pub slice_bounds-play_record-count : goal.slice_bounds-play_record-count
slice_bounds-play_record-count c = omega (arith, data-place _ _ _ (found (goal.at.slice_bounds-play_record-count c).In-Ok-Some))

pub slice_bounds-play_record-start : goal.slice_bounds-play_record-start
slice_bounds-play_record-start c = omega (arith, data-place _ _ _ (found (goal.at.slice_bounds-play_record-start c).In-Ok-Some))

pub slice_bounds-play_record-end : goal.slice_bounds-play_record-end
slice_bounds-play_record-end c =
    omega (arith, walk-on _ _ c.requires.0 c.requires.1 _ (found (goal.at.slice_bounds-play_record-end c).In-Ok-Some), c.requires.0)

pub returns-then-not-s : goal.returns-then-not-s
returns-then-not-s c = let q = c.loop-r in
    c.unplayed.ensures
    ∙ turn-stays _ q.at c.requires.0 c.requires.1 c.args.b q.setup _ (found (goal.at.returns-then-not-s c).In-Ok-Some) _ c.play_record-s.ensures (not-true _ c.if-not-s.true)
    ∙ q.invariant.1

pub loop-r-smaller : goal.loop-r-smaller
loop-r-smaller c = omega (arith, walk-on _ _ c.requires.0 c.requires.1 _ (found (goal.at.loop-r-smaller c).In-Ok-Some))

pub loop-r-preserved : goal.loop-r-preserved
loop-r-preserved c = let q = c.loop-r in
    let e = found (goal.at.loop-r-preserved c).In-Ok-Some in (
      (walk-on _ _ c.requires.0 c.requires.1 _ e).1,
      turn-goes _ q.at c.requires.0 c.requires.1 c.args.b q.setup _ e _ c.play_record-s.ensures (not-false _ c.if-not-s.false) ∙ q.invariant.1,
    )

pub returns-in-Ok-None : goal.returns-in-Ok-None
returns-in-Ok-None c = let q = c.loop-r in
    sym (turn_end c.args.block.now q.at c.requires.0 c.requires.1 c.args.b q.setup (sym c.record_at.ensures ∙ (c.in-Ok-None.is ∙ ap Ok c.in-Ok-None.field-0-is)))
    ∙ q.invariant.1

pub returns-in-Err : goal.returns-in-Err
returns-in-Err c = let q = c.loop-r in
    c.unplayed-in-Err.ensures
    ∙ sym (turn-unreadable c.args.block.now q.at c.requires.0 c.requires.1 c.args.b q.setup (sym c.record_at.ensures ∙ c.in-Err.is))
    ∙ q.invariant.1
