use native.Mathlib.Omega.{arith}
use Rattle.pdu_parts.proofs.Counting.{count-periodic}
use Rattle.pdu_parts.proofs.periodic.count_periodic.Goals as goal

pub returns : goal.returns
returns c = count-periodic _ _ _ c.is_five.ensures c.bits_of.ensures (omega arith)
