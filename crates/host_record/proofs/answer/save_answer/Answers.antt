use mathlib.Core.Path.{◌∙◌}
use Rattle.host_record.proofs.answer.save_answer.Goals as goal

pub returns : goal.returns
returns c = c.copy_into.ensures ∙ rw c.answer_octets.ensures
