use Rattle.log_script.proofs.Fronts.{request-front, request-goes}
use Rattle.log_script.proofs.line.put_request.Goals as goal

pub returns-in-Ok : goal.returns-in-Ok
returns-in-Ok c = request-front c.args.g _ c.requires.0 c.requires.1 _ _ c.encode_ground-w.ensures _ c.in-Ok.is

pub returns-in-Err : goal.returns-in-Err
returns-in-Err c = absurd (request-goes c.args.g _ c.requires.0 c.requires.1 _ _ c.encode_ground-w.ensures _ c.in-Err.is)
