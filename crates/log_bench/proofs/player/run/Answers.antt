use native.Mathlib.Omega.{arith}
use Rattle.log_blocks.proofs.Walks.{ready}
use Rattle.log_bench.proofs.Ending.{ends-refused, block-judged, ends-block}
use Rattle.log_bench.proofs.player.run.Goals as goal

pub returns-then-b-ne0 : goal.returns-then-b-ne0
returns-then-b-ne0 c = c.loop-k.invariant _ _ (ends-refused _ _ _ _ _ c.play_block-b.ensures c.if-b-ne0.true)

pub show_block-shown-requires : goal.show_block-shown-requires
show_block-shown-requires c = let q = c.loop-k in
    let w = ready _ _ (block-judged _ q.e.number _ _ _ c.play_block-b.ensures c.if-b-ne0.false) in
    (w.0, w.1, omega (arith, c.requires))

pub loop-k-preserved : goal.loop-k-preserved
loop-k-preserved c =
    λ o f d. c.loop-k.invariant o f (ends-block _ _ _ _ _ c.play_block-b.ensures c.if-b-ne0.false _ _ o f c.show_block-shown.ensures d)
