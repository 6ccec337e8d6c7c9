use native.Mathlib.Omega.{arith}
use Rattle.per.proofs.SignedWrite.{wide_fits, sum_fits, most-fits, raise-low, raise-high, raise-cast, raise-good}
use Rattle.per.proofs.pen.raise.Goals as goal
use Rattle.per.proofs.pen.raise.Goals.{then-sum-lt0-via-then-sum-lt0, then-sum-lt0-via-else-sum-lt0+then-most-sum}

pub overflow_cast-sum : goal.overflow_cast-sum
overflow_cast-sum c = wide_fits c.args.z.number 0 c.struct_told-1.given.0.1 (omega arith)

pub overflow_add-sum : goal.overflow_add-sum
overflow_add-sum c = sum_fits c.args.z.number c.args.below c.struct_told-1.given.0.1 (omega arith)

pub overflow_add-most : goal.overflow_add-most
overflow_add-most c = most-fits c.args.top c.args.below (omega arith) (omega arith)

pub returns-then-sum-lt0 : goal.returns-then-sum-lt0
returns-then-sum-lt0 c = elim c.then-sum-lt0.branch [
  | then-sum-lt0-via-then-sum-lt0 w ↦ raise-low c.args.below c.args.top c.args.z.number c.struct_told-1.given.0.1 (omega arith) (omega arith) w.if-sum-lt0.true
  | then-sum-lt0-via-else-sum-lt0+then-most-sum w ↦ raise-high c.args.below c.args.top c.args.z.number c.struct_told-1.given.0.1 (omega arith) (omega arith) w.if-most-sum.true
]

pub overflow_cast-result-2 : goal.overflow_cast-result-2
overflow_cast-result-2 c = raise-cast c.args.below c.args.top c.args.z.number c.struct_told-1.given.0.1 (omega arith) (omega arith) c.if-sum-lt0.false c.if-most-sum.false

pub returns : goal.returns
returns c = raise-good c.args.below c.args.top c.args.z.number c.struct_told-1.given.0.1 (omega arith) (omega arith) c.if-sum-lt0.false c.if-most-sum.false
