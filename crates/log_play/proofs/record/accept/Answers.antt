use borrow.Author.Tests.{eq-eqb, ne_eqb}
use Rattle.log_play.specs.Steps.{accepted}
use Rattle.log_play.specs.Plays.{step_in}
use Rattle.log_play.proofs.record.accept.Goals as goal

pub returns-then-a-ne0 : goal.returns-then-a-ne0
unfolding accepted step_in
returns-then-a-ne0 c = rw (ne_eqb _ 0 c.if-a-ne0.true) c.stay.ensures

pub returns : goal.returns
unfolding accepted step_in
returns c = rw (eq-eqb _ 0 c.if-a-ne0.false)
