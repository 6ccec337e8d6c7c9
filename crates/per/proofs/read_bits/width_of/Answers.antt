use native.Mathlib.Omega.{arith}
use lib.Count.{leading_le}
use Rattle.per.proofs.Octets.{width_is}
use Rattle.per.proofs.read_bits.width_of.Goals as goal

pub overflow_sub-result : goal.overflow_sub-result
overflow_sub-result c = leading_le _ _

pub returns : goal.returns
returns c = (width_is _ (omega arith), omega arith)
