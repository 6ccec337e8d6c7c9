use Rattle.flight_line.specs.Lines.{other_line}
use borrow.Author.Tests.{ne_eqb}
use Rattle.flight_line.proofs.line.other_line.Goals as goal

pub returns-in-3 : goal.returns-in-3
unfolding other_line
returns-in-3 c = rw c.in-3.is c.elapse_line.ensures

pub returns-in-4 : goal.returns-in-4
unfolding other_line
returns-in-4 c = rw c.in-4.is c.carry_line.ensures

pub returns-in-5 : goal.returns-in-5
unfolding other_line
returns-in-5 c = rw c.in-5.is c.carry_line-in-5.ensures

pub returns-in-6 : goal.returns-in-6
unfolding other_line
returns-in-6 c = rw c.in-6.is c.cut_line.ensures

pub returns-in_default : goal.returns-in_default
unfolding other_line
returns-in_default c = rw (ne_eqb _ 3 c.in_default.in_default-own.rest.0.0.0.1, ne_eqb _ 4 c.in_default.in_default-own.rest.0.0.1, ne_eqb _ 5 c.in_default.in_default-own.rest.0.1, ne_eqb _ 6 c.in_default.in_default-own.rest.1) c.refuse_line.ensures
