use borrow.Author.Tests.{eq-eqb, ne_eqb}
use Rattle.refusals.proofs.Numbers.{number-some}
use Rattle.per.specs.ReadingInner.{settled}
use Rattle.per.proofs.cursor.Cursor.settle.Goals as goal

pub returns-then-t-ne0 : goal.returns-then-t-ne0
unfolding settled
returns-then-t-ne0 c = rw (ne_eqb _ _ c.if-t-ne0.true)

pub returns-in-Some : goal.returns-in-Some
unfolding settled
returns-in-Some c = rw (c.refused.ensures, eq-eqb _ _ c.if-t-ne0.false, c.in-Some.is, ne_eqb _ _ (number-some c.in-Some.refusal))

pub returns : goal.returns
unfolding settled
returns c = rw (eq-eqb _ _ c.if-t-ne0.false, c.in_default.is)
