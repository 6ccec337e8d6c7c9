use borrow.Author.Tests.{ne_eqb}
use native.Mathlib.Omega.{arith}
use Rattle.script.specs.Fields.{field_of, held_in}
use Rattle.script.proofs.line.hold.Goals as goal

pub returns-in-1 : goal.returns-in-1
unfolding field_of
returns-in-1 c = rw c.in-1.is (c.hold_nothing.ensures.is _)

pub returns-in-2 : goal.returns-in-2
unfolding field_of
returns-in-2 c = rw c.in-2.is c.hold_octets.ensures

pub returns-in-3 : goal.returns-in-3
unfolding field_of
returns-in-3 c = rw (c.in-3.is, ← c.number_after.ensures) (c.hold_number.ensures.is _)

pub returns-in_default : goal.returns-in_default
unfolding field_of held_in
returns-in_default c = rw (ne_eqb c.args.shape 1 (omega arith), ne_eqb c.args.shape 2 (omega arith), ne_eqb c.args.shape 3 (omega arith))
