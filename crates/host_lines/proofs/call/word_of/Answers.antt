use mathlib.Core.Path.{◌∙◌}
use Rattle.host_lines.proofs.CallLaws.{host-word}
use Rattle.host_lines.proofs.call.word_of.Goals as goal

pub returns : goal.returns
returns c = c.find.ensures ∙ host-word _
