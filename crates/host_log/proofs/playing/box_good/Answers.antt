use mathlib.Core.Path.{sym, ap, ◌∙◌}
use borrow.Author.Tests.{ne_eqb}
use Rattle.ground_answer.specs.Record.{good}
use Rattle.host_log.proofs.Ways.{no_record, of-zeros, of-link}
use Rattle.host_log.proofs.playing.box_good.Goals as goal

pub returns-then-all_zero : goal.returns-then-all_zero
returns-then-all_zero c =
    let is = c.if-all_zero.true in
    let good = of-zeros _ c.if-link-eq-RECORD.true (sym c.all_zero.ensures ∙ is) in
    cc

pub returns-else-all_zero : goal.returns-else-all_zero
returns-else-all_zero c = of-link _ c.if-link-eq-RECORD.true (sym c.all_zero.ensures ∙ c.if-all_zero.false) _ (c.is_good.ensures ∙ ap good c.load.ensures)

pub returns-else-link-eq-RECORD : goal.returns-else-link-eq-RECORD
returns-else-link-eq-RECORD c = ne_eqb _ 93 c.if-link-eq-RECORD.false ∙ no_record _ c.if-link-eq-RECORD.false
