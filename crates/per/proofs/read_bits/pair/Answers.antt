use native.Mathlib.Omega.{arith}
use Rattle.per.proofs.Octets.{window-most}
use Rattle.per.proofs.Runs.{join}
use Rattle.per.proofs.read_bits.pair.Goals as goal

pub overflow_add-i : goal.overflow_add-i
overflow_add-i c = omega (arith, window-most c.args.s.now)

pub returns : goal.returns
returns c = (join _ _ _ 8 8 _ _ c.octet-a.ensures.0 c.octet-b.ensures.0 (omega arith), omega arith)
