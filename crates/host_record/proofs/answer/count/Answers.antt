use Rattle.host_record.specs.AnswerLayout.{at_most}
use native.Mathlib.Omega.{arith}
use Rattle.std.proofs.lemmas.Bool.Decides.{nat_tests}
use Rattle.host_record.proofs.answer.count.Goals as goal

pub returns : goal.returns
unfolding at_most
returns c = grind (arith, nat_tests)
