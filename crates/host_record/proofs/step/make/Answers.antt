use mathlib.Core.Path.{ap, ◌∙◌}
use Rattle.host_record.proofs.Puts.{saved-record}
use Rattle.ground_answer.specs.Fresh.{opened}
use Rattle.host_record.proofs.Ways.{not-all, not_made, no_place, is_made}
use Rattle.host_record.proofs.step.make.Goals as goal

pub returns-then-settings-ne-TIMERS : goal.returns-then-settings-ne-TIMERS
returns-then-settings-ne-TIMERS c = not-all c.args.settings.now c.args.link.now c.if-settings-ne-TIMERS.true

pub returns-then-o-ne0 : goal.returns-then-o-ne0
returns-then-o-ne0 c = let k = c.args in
    let o = c.open-o in
    not_made k.settings.now k.link.now c.if-settings-ne-TIMERS.false o.result (o.ensures ∙ ap opened c.settings_of.ensures) c.if-o-ne0.true

pub returns-then-link-ne-RECORD : goal.returns-then-link-ne-RECORD
returns-then-link-ne-RECORD c = let k = c.args in
    let o = c.open-o in
    no_place k.settings.now k.link.now c.if-settings-ne-TIMERS.false o.result (o.ensures ∙ ap opened c.settings_of.ensures) c.if-o-ne0.false c.if-link-ne-RECORD.true

pub returns : goal.returns
returns c = let k = c.args in
    let o = c.open-o in
    is_made k.settings.now k.link.now c.if-settings-ne-TIMERS.false o.result (o.ensures ∙ ap opened c.settings_of.ensures) c.if-o-ne0.false c.if-link-ne-RECORD.false _ (c.save.ensures ∙ saved-record _ _ c.if-link-ne-RECORD.false)
