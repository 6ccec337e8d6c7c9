use Rattle.host_record.specs.Hosting.{settings_of}
use Rattle.host_record.proofs.step.settings_of.Goals as goal

pub returns : goal.returns
unfolding settings_of
returns c = c.padded.ensures
