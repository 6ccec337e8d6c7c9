use Rattle.script.specs.Fields.{counted, held_in}
use Rattle.script.proofs.line.hold_number.Goals as goal

pub returns-in-Some : goal.returns-in-Some
unfolding counted held_in
returns-in-Some c = record { is = λ o. rw c.in-Some.is }

pub returns-in-None : goal.returns-in-None
unfolding counted held_in
returns-in-None c = record { is = λ o. rw c.in-None.is }
