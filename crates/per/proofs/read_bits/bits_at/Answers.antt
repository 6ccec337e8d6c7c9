use native.Mathlib.Omega.{arith}
use Rattle.per.proofs.Octets.{seat}
use Rattle.per.proofs.Runs.{part, pow-up, num-none}
use Rattle.per.proofs.read_bits.bits_at.Goals as goal

pub returns-then-w-eq0 : goal.returns-then-w-eq0
returns-then-w-eq0 c = num-none _ _ _ (omega arith)

pub octet-requires : goal.octet-requires
octet-requires c = seat _ _ _ 8 c.requires.0 (omega arith) (omega arith) (omega arith)

pub nonzero_rem-result : goal.nonzero_rem-result
nonzero_rem-result c = pow-up _ _ c.pow2-m.ensures

pub returns-then-t-le8 : goal.returns-then-t-le8
returns-then-t-le8 c = part _ _ _ 8 _ _ c.octet.ensures.0 c.pow2-m.ensures (omega arith)

pub pair-requires : goal.pair-requires
pair-requires c = seat _ _ _ 16 c.requires.0 (omega arith) (omega arith) (omega arith)

pub nonzero_rem-result-then-t-le16 : goal.nonzero_rem-result-then-t-le16
nonzero_rem-result-then-t-le16 c = pow-up _ _ c.pow2-m.ensures

pub returns-then-t-le16 : goal.returns-then-t-le16
returns-then-t-le16 c = part _ _ _ 16 _ _ c.pair.ensures.0 c.pow2-m.ensures (omega arith)

pub triple-requires : goal.triple-requires
triple-requires c = seat _ _ _ 24 c.requires.0 (omega arith) (omega arith) (omega arith)

pub nonzero_rem-result-then-t-le24 : goal.nonzero_rem-result-then-t-le24
nonzero_rem-result-then-t-le24 c = pow-up _ _ c.pow2-m.ensures

pub returns-then-t-le24 : goal.returns-then-t-le24
returns-then-t-le24 c = part _ _ _ 24 _ _ c.triple.ensures.0 c.pow2-m.ensures (omega arith)

pub quad-requires : goal.quad-requires
quad-requires c = seat _ _ _ 32 c.requires.0 (omega arith) (omega arith) (omega arith)

pub nonzero_rem-result-then-t-le32 : goal.nonzero_rem-result-then-t-le32
nonzero_rem-result-then-t-le32 c = pow-up _ _ c.pow2-m.ensures

pub returns-then-t-le32 : goal.returns-then-t-le32
returns-then-t-le32 c = part _ _ _ 32 _ _ c.quad.ensures.0 c.pow2-m.ensures (omega arith)

pub five-requires : goal.five-requires
five-requires c = seat _ _ _ 40 c.requires.0 (omega arith) (omega arith) (omega arith)

pub nonzero_rem-result-2 : goal.nonzero_rem-result-2
nonzero_rem-result-2 c = pow-up _ _ c.pow2-m.ensures

pub returns : goal.returns
returns c = part _ _ _ 40 _ _ c.five.ensures.0 c.pow2-m.ensures (omega arith)
