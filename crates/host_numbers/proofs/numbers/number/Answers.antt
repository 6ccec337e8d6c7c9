use mathlib.Core.Path.{sym}
use native.Mathlib.Omega.{arith}
use lib.ListN.{get_or-eq_default}
use Rattle.host_numbers.proofs.numbers.number.Goals as goal

pub returns-else-i-f : goal.returns-else-i-f
returns-else-i-f c = sym (get_or-eq_default c.args.f.now 0 (omega arith))
