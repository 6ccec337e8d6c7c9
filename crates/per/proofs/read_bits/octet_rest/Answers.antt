use native.Mathlib.Omega.{arith}
use Rattle.per.proofs.Octets.{window-length}
use Rattle.per.proofs.Runs.{num-rest, num-none, pow-up}
use Rattle.per.proofs.read_bits.octet_rest.Goals as goal

pub returns-then-k-eq0 : goal.returns-then-k-eq0
returns-then-k-eq0 c = num-none _ _ _ (omega arith)

pub octet-requires : goal.octet-requires
octet-requires c = omega (arith, window-length c.args.s.now)

pub nonzero_rem-result : goal.nonzero_rem-result
nonzero_rem-result c = pow-up _ _ c.pow2.ensures

pub returns : goal.returns
returns c = num-rest _ _ _ _ c.if-k-eq0.false c.octet.ensures.0 c.pow2.ensures
