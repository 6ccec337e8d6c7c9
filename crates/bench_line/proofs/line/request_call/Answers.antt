use Rattle.bench_line.specs.Lines.{request_call}
use Rattle.bench_line.proofs.line.request_call.Goals as goal

pub returns-in-Ok : goal.returns-in-Ok
unfolding request_call
returns-in-Ok c = rw c.in-Ok.is

pub returns-in-Err : goal.returns-in-Err
unfolding request_call
returns-in-Err c = rw c.in-Err.is
