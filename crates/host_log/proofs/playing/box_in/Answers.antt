use Rattle.host_log.specs.Playing.{box_in}
use Rattle.host_log.proofs.playing.box_in.Goals as goal

pub returns : goal.returns
unfolding box_in
returns c = rw (c.all_zero.ensures, c.load.ensures)
