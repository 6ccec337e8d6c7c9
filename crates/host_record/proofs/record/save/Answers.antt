use mathlib.Core.Path.{sym, ◌∙◌}
use Rattle.host_record.proofs.Puts.{saved-record, saved-other}
use Rattle.host_record.proofs.record.save.Goals as goal

pub returns-then-out-eq-RECORD : goal.returns-then-out-eq-RECORD
returns-then-out-eq-RECORD c = let a = c.args in
    c.store.ensures ∙ sym (saved-record a.l a.out.now c.if-out-eq-RECORD.true)

pub returns-else-out-eq-RECORD : goal.returns-else-out-eq-RECORD
returns-else-out-eq-RECORD c = sym (saved-other c.args.l c.args.out.now c.if-out-eq-RECORD.false)
