use Rattle.host_numbers.specs.ChangeNumbers.{changes_at}
use Rattle.host_numbers.proofs.changes.changes_at.Goals as goal

pub returns : goal.returns
unfolding changes_at
returns c = cc
