use borrow.Author.Tests.{eq-eqb, ne_eqb}
use Rattle.air_line.specs.Lines.{parsed_with, parsed_in, number_call}
use Rattle.air_line.proofs.line.number_call.Goals as goal

pub returns-then-w-eq-ELAPSE : goal.returns-then-w-eq-ELAPSE
unfolding number_call parsed_in parsed_with
returns-then-w-eq-ELAPSE c = λ o. rw (eq-eqb _ 4 c.if-w-eq-ELAPSE.true, c.bare.ensures)

pub returns : goal.returns
unfolding number_call parsed_in parsed_with
returns c = λ o. rw (ne_eqb _ 4 c.if-w-eq-ELAPSE.false, c.bare-2.ensures)
