use Rattle.log_play.specs.Records.{record_of}
use Rattle.log_script.proofs.line.put_data.Goals as goal

pub put_request-requires : goal.put_request-requires
put_request-requires c = (c.requires.0 _ c.in-Request.is, c.requires.1)

pub returns-in-Request : goal.returns-in-Request
unfolding record_of
returns-in-Request c = rw c.in-Request.is c.put_request.ensures
