use mathlib.Core.Path.{ap, ◌∙◌}
use borrow.Author.Tests.{not-true, not-false}
use Rattle.air.specs.Arrivals.{taken}
use Rattle.air.proofs.Moving.{taken-on, taken-off}
use Rattle.air.proofs.arrivals.take.Goals as goal

pub returns-in_default : goal.returns-in_default
unfolding taken
returns-in_default c = c.abort.ensures ∙ ap (taken c.args.l c.args.li) c.in_default.ensures

pub returns-then-not-may_come : goal.returns-then-not-may_come
returns-then-not-may_come c = c.abort-then-not-may_come.ensures ∙ taken-off c.args.l c.args.li _ c.uplink_event-event.ensures c.may_come.ensures (not-true _ c.if-not-may_come.true-raw) ∙ ap (taken c.args.l c.args.li) c.in-Ok.ensures

pub returns : goal.returns
returns c = c.pass.ensures ∙ taken-on c.args.l c.args.li _ c.uplink_event-event.ensures c.may_come.ensures (not-false _ c.if-not-may_come.false-raw) ∙ ap (taken c.args.l c.args.li) c.in-Ok.ensures
