use Rattle.std.proofs.Common.{rules}
use Rattle.ground_answer.specs.Sent.{sent}
use Rattle.std.proofs.Common.{rules}
use Rattle.ground_answer.proofs.sent.nothing.Goals as goal

pub returns : goal.returns
unfolding sent
returns c = search rules
