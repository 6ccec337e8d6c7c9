use Rattle.ground_answer.proofs.Asking.{asks-within}
use native.Mathlib.Omega.{arith}
use Rattle.ground.proofs.requests.asks_for.Goals as goal

pub overflow_mul-result : goal.overflow_mul-result
overflow_mul-result c = let r = asks-within _ (rw c.in-PeriodicContract.is at c.requires) in omega (arith, rw c.in-Minutes.is at r.1)
