use Rattle.log_blocks.specs.Block.{check_of}
use Rattle.log_blocks.proofs.check_of.Goals as goal

pub returns : goal.returns
unfolding check_of
returns c = rw (← c.weigh-w.ensures.0)
