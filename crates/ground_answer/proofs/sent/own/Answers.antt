use mathlib.Core.Path.{ap, ◌∙◌}
use Rattle.ground_answer.specs.Sent.{Outgoing}
use Rattle.ground_answer.proofs.sent.own.Goals as goal

pub returns-in-Ok : goal.returns-in-Ok
returns-in-Ok c = ap (λ (o : Outgoing). o.sent) c.in-Ok.ensures

pub returns-in-Err : goal.returns-in-Err
returns-in-Err c = c.nothing.ensures ∙ ap (λ (o : Outgoing). o.sent) c.in-Err.ensures
