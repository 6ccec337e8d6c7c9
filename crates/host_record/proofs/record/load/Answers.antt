use mathlib.Core.Path.{ap, ◌∙◌}
use Rattle.host_record.specs.RecordLayout.{link_of}
use Rattle.host_record.proofs.Loads.{filled-link}
use Rattle.host_record.proofs.record.load.Goals as goal

pub returns : goal.returns
returns c = c.spell-2.ensures ∙ ap link_of c.copy_into.ensures ∙ filled-link _
