use borrow.Enum.Refused.{opened}
use mathlib.Core.Path.{ap, ◌∙◌}
use Rattle.air.specs.Arrivals.{all_cancelled}
use Rattle.air.proofs.Moving.{no_cancel_all}
use Rattle.air.proofs.arrivals.cancel_all.Goals as goal

pub returns-in_default : goal.returns-in_default
unfolding all_cancelled
returns-in_default c = c.abort.ensures ∙ ap (all_cancelled c.args.l) c.in_default.ensures

pub returns-in-CancelAll : goal.returns-in-CancelAll
unfolding all_cancelled
returns-in-CancelAll c = rw (c.end.ensures, c.own.ensures) (rw c.in-CancelAll.is at (ap (all_cancelled c.args.l) c.in-Ok.ensures))

pub returns-in_default-g : goal.returns-in_default-g
unfolding all_cancelled
returns-in_default-g c = rw c.abort-in_default-g.ensures (rw (no_cancel_all _ (opened c.in_default-g.in_default-g-own.keys2)) at (ap (all_cancelled c.args.l) c.in-Ok.ensures))
