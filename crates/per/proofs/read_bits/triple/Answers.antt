use native.Mathlib.Omega.{arith}
use Rattle.per.proofs.Octets.{window-most}
use Rattle.per.proofs.Runs.{join}
use Rattle.per.proofs.read_bits.triple.Goals as goal

pub overflow_add-i : goal.overflow_add-i
overflow_add-i c = omega (arith, window-most c.args.s.now)

pub returns : goal.returns
returns c = (join _ _ _ 16 8 _ _ c.pair-a.ensures.0 c.octet-b.ensures.0 (omega arith), omega arith)
