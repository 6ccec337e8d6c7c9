use mathlib.Core.Path.{sym, ◌∙◌}
use borrow.Author.Tests.{eq-eqb, ne_eqb}
use Rattle.log_play.specs.Steps.{is_settings, open_step}
use Rattle.log_play.specs.Plays.{step_in}
use Rattle.log_play.proofs.record.open_record.Goals as goal
use Rattle.log_play.proofs.record.open_record.Goals.{then-kind-ne0-via-then-kind-ne0, then-kind-ne0-via-else-kind-ne0+then-seconds-ne0, then-kind-ne0-via-else-kind-ne0+else-seconds-ne0+then-not-is_long}

pub returns-then-kind-ne0 : goal.returns-then-kind-ne0
unfolding open_step is_settings step_in
returns-then-kind-ne0 c = elim c.then-kind-ne0.branch [
  | then-kind-ne0-via-then-kind-ne0 w ↦ rw (ne_eqb _ 0 w.if-kind-ne0.true) c.stay.ensures
  | then-kind-ne0-via-else-kind-ne0+then-seconds-ne0 w ↦ rw (eq-eqb _ 0 w.if-kind-ne0.false, ne_eqb _ 0 w.if-seconds-ne0.true) c.stay.ensures
  | then-kind-ne0-via-else-kind-ne0+else-seconds-ne0+then-not-is_long w ↦
      rw (eq-eqb _ 0 w.if-kind-ne0.false, eq-eqb _ 0 w.if-seconds-ne0.false, sym w.is_long.ensures ∙ w.if-not-is_long.true) c.stay.ensures
]

pub returns : goal.returns
unfolding open_step is_settings
returns c = rw (eq-eqb _ 0 c.if-kind-ne0.false, eq-eqb _ 0 c.if-seconds-ne0.false, sym c.is_long.ensures ∙ c.if-not-is_long.false, c.accept.ensures, c.refuse-a.ensures, c.open-o.ensures, c.settings_in.ensures)
