use Rattle.link.specs.Step.{stopped, rest_at}
use Rattle.link.proofs.executor.Step.stop_all.Goals as goal

pub returns : goal.returns
unfolding stopped rest_at
returns c = rw c.stops.ensures
