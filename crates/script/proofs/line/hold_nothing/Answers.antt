use borrow.Author.Tests.{eq-eqb, ne_eqb}
use Rattle.script.specs.Fields.{alone_field, held_in}
use Rattle.script.proofs.line.hold_nothing.Goals as goal

pub returns-then-tail-eq0 : goal.returns-then-tail-eq0
unfolding alone_field held_in
returns-then-tail-eq0 c = record { is = λ o. rw (eq-eqb _ 0 c.if-tail-eq0.true) }

pub returns : goal.returns
unfolding alone_field held_in
returns c = record { is = λ o. rw (ne_eqb _ 0 c.if-tail-eq0.false) }
