use Rattle.link.specs.Step.{begun}
use Rattle.link.proofs.executor.Step.begin.Goals as goal

pub returns : goal.returns
unfolding begun
returns c = rw c.none-acts.ensures
