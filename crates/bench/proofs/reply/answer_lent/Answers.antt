use Rattle.ground.specs.Runs.{answered}
use Rattle.bench.proofs.reply.answer_lent.Goals as goal

pub returns : goal.returns
unfolding answered
returns c = rw c.in-Elapse.is c.elapse_lent.ensures
