use mathlib.Core.Path.{ap, ◌∙◌}
use Rattle.air_answer.specs.Sent.{Outgoing}
use Rattle.air_answer.proofs.sent.own.Goals as goal

pub returns-in-Ok : goal.returns-in-Ok
returns-in-Ok c = rw c.no_list-list.ensures at (ap (λ (o : Outgoing). o.sent) c.in-Ok.ensures)

pub returns-in-Err : goal.returns-in-Err
returns-in-Err c = c.nothing.ensures ∙ (rw c.no_list-list.ensures at (ap (λ (o : Outgoing). o.sent) c.in-Err.ensures))
