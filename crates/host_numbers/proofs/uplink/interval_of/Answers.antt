use native.Mathlib.Omega.{arith}
use Rattle.per.proofs.Compose.{climb}
use Rattle.host_numbers.proofs.Others.{other-scale}
use Rattle.host_numbers.proofs.uplink.interval_of.Goals as goal

pub returns-in-0 : goal.returns-in-0
returns-in-0 c = rw c.in-0.is

pub returns-in-1 : goal.returns-in-1
returns-in-1 c = rw c.in-1.is

pub returns-in_default : goal.returns-in_default
returns-in_default c = other-scale _ _ (climb _ 1 (climb _ 0 (omega arith) c.in_default.in_default-own.rest.0.1) c.in_default.in_default-own.rest.1)
