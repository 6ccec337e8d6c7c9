use Rattle.air_line.specs.Lines.{request_line}
use Rattle.air_line.proofs.line.request_line.Goals as goal

pub returns-in-Ok : goal.returns-in-Ok
unfolding request_line
returns-in-Ok c = rw c.in-Ok.is

pub returns-in-Err : goal.returns-in-Err
unfolding request_line
returns-in-Err c = rw c.in-Err.is c.bare.ensures
