use mathlib.Core.Path.{refl, sym, ap, ◌∙◌}
use borrow.Author.Tests.{ne_eqb}
use Rattle.script.specs.Fields.{held_in}
use Rattle.script.specs.declared.line.Held.{Held}
use Rattle.host_log.specs.Recording.{readable}
use Rattle.host_log.proofs.Ways.{settings-timed, settings-sized, held-fields, was-held}
use Rattle.host_log.proofs.recording.fields_good.Goals as goal
use Rattle.host_log.proofs.recording.fields_good.Goals.{in-Unread, in_default}

pub returns-then-seconds-eq0 : goal.returns-then-seconds-eq0
returns-then-seconds-eq0 c = settings-sized _ _ c.args.octets.now c.if-kind-eq0.true c.if-seconds-eq0.true _ refl

pub returns-else-seconds-eq0 : goal.returns-else-seconds-eq0
returns-else-seconds-eq0 c = ne_eqb _ 0 c.if-seconds-eq0.false ∙ settings-timed _ _ c.args.octets.now c.if-kind-eq0.true c.if-seconds-eq0.false

pub returns : goal.returns
unfolding held_in
returns c = let a = c.args in
    let d = a.octets.now in
    let h = c.hold_record in
    let e = held-fields a.kind a.seconds d c.shape_of-shape.result h.result c.if-kind-eq0.false c.shape_of-shape.ensures h.ensures in
    elim c.match-matches.branch [
      | in-Unread w ↦ rw w.matches-is (sym (ap (λ (x : Held). readable (held_in x d)) w.in-Unread.is) ∙ e)
      | in_default w ↦ rw w.matches-is (was-held d h.result w.in_default.not-Unread ∙ e)
    ]
