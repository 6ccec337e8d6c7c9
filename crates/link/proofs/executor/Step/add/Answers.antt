use Rattle.link.specs.Step.{added}
use Rattle.link.proofs.executor.Step.add.Goals as goal

pub returns : goal.returns
unfolding added
returns c = rw c.push.ensures
