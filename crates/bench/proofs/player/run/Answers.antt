use mathlib.Core.Path.{refl, ◌∙◌}
use native.Mathlib.Omega.{arith}
use borrow.Author.Tests.{not-true, not-false}
use Rattle.bench.specs.Replies.{ground_bench}
use Rattle.script.proofs.Playing.{plays-none, plays-failed, plays-line, well-found, shown-line}
use Rattle.bench.proofs.player.run.Goals as goal

pub loop-init : goal.loop-init
loop-init c = (refl, refl, refl, λ n b f d. rw c.start-input.ensures at d)

pub returns-then-not-l : goal.returns-then-not-l
returns-then-not-l c = let v = c.loop.invariant in
    let l = c.pull_line-l.ensures in
    v.3 _ _ _ (plays-none ground_bench (not-true _ c.if-not-l.true) (λ well. rw v.1 at (l.line_is well)))

pub slice_bounds-add_line-end-in-loop : goal.slice_bounds-add_line-end-in-loop
slice_bounds-add_line-end-in-loop c = c.shown-n.ensures.there.1

pub add_line-e-requires : goal.add_line-e-requires
add_line-e-requires c = omega (arith, c.pull_line-l.ensures.room, c.loop.invariant.2, c.requires)

pub loop-preserved : goal.loop-preserved
loop-preserved c = let v = c.loop.invariant in
    let l = c.pull_line-l.ensures in
    let k = c.pull_line-l.auto in
    let d = c.add_line-e.ensures in
    let there = not-false _ c.if-not-l.false in (
      k.chunk ∙ v.0,
      k.line ∙ v.1,
      c.add_line-e.auto.out ∙ v.2,
      λ n b f p. v.3 n b f (plays-line ground_bench (rw (v.1, there) at (l.line_is (well-found l.none_failed there))) d.number_is (rw (shown-line c.shown-n.ensures) at d.box_is) p),
    )

pub returns : goal.returns
returns c = c.loop.invariant.3 _ _ _ (plays-failed ground_bench)
