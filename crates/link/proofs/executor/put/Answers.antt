use Rattle.std.proofs.Common.{sym, arith}
use lib.Seq.{set_out}
use Rattle.link.proofs.executor.put.Goals as goal

pub returns-else-i-list : goal.returns-else-i-list
returns-else-i-list g c = sym (set_out c.args.list.now c.args.place c.args.value (omega arith))
