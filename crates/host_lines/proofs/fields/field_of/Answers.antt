use Rattle.host_lines.specs.Fields.{held_by}
use Rattle.host_lines.proofs.fields.field_of.Goals as goal

pub returns-in-Ok : goal.returns-in-Ok
unfolding held_by
returns-in-Ok c = rw c.in-Ok.is

pub returns-in-Err : goal.returns-in-Err
unfolding held_by
returns-in-Err c = rw c.in-Err.is
