use native.Mathlib.Omega.{arith}
use Rattle.text.proofs.Counting.{number-none, number-zero, number-one, number-long}
use mathlib.Core.Path.{sym, ◌∙◌}
use Rattle.text.proofs.digits.parse_number.Goals as goal

pub returns-in-0 : goal.returns-in-0
returns-in-0 c = sym (number-none _ c.in-0.is)

pub returns-in-1 : goal.returns-in-1
returns-in-1 c = c.digits_of.ensures ∙ sym (number-one c.args.s.now c.in-1.is)

pub returns-in_default : goal.returns-in_default
returns-in_default c = sym (number-zero c.args.s.now (omega arith) c.if-s-eq48.true)

pub returns-in_default-2 : goal.returns-in_default-2
returns-in_default-2 c = c.digits_of-in_default-2.ensures ∙ sym (number-long c.args.s.now (omega arith) c.if-s-eq48.false)
