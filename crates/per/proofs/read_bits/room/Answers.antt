use native.Mathlib.Omega.{arith}
use Rattle.per.proofs.Octets.{window-length}
use Rattle.per.proofs.read_bits.room.Goals as goal

pub returns : goal.returns
returns c = simp window-length (omega arith)
