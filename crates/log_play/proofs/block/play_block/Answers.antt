use mathlib.Core.Path.{sym, ◌∙◌}
use Rattle.log_blocks.proofs.Walks.{ready}
use Rattle.log_play.proofs.Walks.{block_refused, block_read}
use Rattle.log_play.proofs.block.play_block.Goals as goal

pub returns-then-bad-ne0 : goal.returns-then-bad-ne0
returns-then-bad-ne0 c = c.unplayed.ensures ∙ block_refused _ _ _ _ c.check_block-bad.ensures c.if-bad-ne0.true

pub walk-requires : goal.walk-requires
walk-requires c = ready _ _ (sym c.check_block-bad.ensures ∙ c.if-bad-ne0.false)

pub returns : goal.returns
returns c = c.walk.ensures ∙ block_read _ _ _ (sym c.check_block-bad.ensures ∙ c.if-bad-ne0.false)
