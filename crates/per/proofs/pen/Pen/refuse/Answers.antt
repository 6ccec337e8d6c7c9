use borrow.Author.Tests.{eq-eqb, ne_eqb}
use Rattle.per.specs.Writing.{barred}
use Rattle.per.proofs.pen.Pen.refuse.Goals as goal

pub returns-then-self-ne0 : goal.returns-then-self-ne0
unfolding barred
returns-then-self-ne0 c = rw (ne_eqb _ _ c.if-self-ne0.true)

pub returns : goal.returns
unfolding barred
returns c = rw (eq-eqb _ _ c.if-self-ne0.false)
