use mathlib.Core.Path.{◌∙◌}
use Rattle.host_record.specs.AnswerLayout.{answer_octets}
use Rattle.host_record.proofs.answer.answer_octets.Goals as goal

pub returns : goal.returns
unfolding answer_octets
returns c = c.with_sent.ensures ∙ rw c.head_octets.ensures
