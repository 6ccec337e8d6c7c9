use Rattle.host_numbers.proofs.Puts.{copied}
use Rattle.host_numbers.proofs.copy.copy_into.Goals as goal

pub returns : goal.returns
returns g c = rw c.copy_from_slice.ensures.after (copied c.args.src.now c.args.out.now c.min-n.result c.min-n.ensures)
