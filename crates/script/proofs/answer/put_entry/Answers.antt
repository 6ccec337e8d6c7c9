use mathlib.Core.Path.{refl}
use native.Mathlib.Omega.{arith}
use Rattle.script.specs.Entries.{behind}
use Rattle.script.proofs.Texts.{entry-parts, timer-alone, behind-goes, behind-none, behind-over}
use Rattle.script.proofs.answer.put_entry.Goals as goal

pub returns-then-c-ge-STOP : goal.returns-then-c-ge-STOP
returns-then-c-ge-STOP c = rw (timer-alone _ _ _ _ _ c.if-c-ge-STOP.true) c.put_timer_entry.ensures

pub returns-in-5 : goal.returns-in-5
unfolding behind
returns-in-5 c = entry-parts _ _ _ _ _ c.if-c-ge-STOP.false c.put_word-a.ensures (rw c.in-5.is c.put_spaced.ensures)

pub returns-in-6 : goal.returns-in-6
unfolding behind
returns-in-6 c = entry-parts _ _ _ _ _ c.if-c-ge-STOP.false c.put_word-a.ensures (rw c.in-6.is c.put_decimal.ensures)

pub returns-in-1-to-4 : goal.returns-in-1-to-4
returns-in-1-to-4 c = entry-parts _ _ _ _ _ c.if-c-ge-STOP.false c.put_word-a.ensures (rw (behind-goes c.args.c _ _ _ (omega arith) (omega arith)) c.put_spaced-in-1-to-4.ensures)

pub returns-in_default : goal.returns-in_default
returns-in_default c = entry-parts _ _ _ _ _ c.if-c-ge-STOP.false c.put_word-a.ensures (rw (behind-none c.args.c _ _ _ (omega arith)) (record { is = refl }))

pub returns-in_default-2 : goal.returns-in_default-2
returns-in_default-2 c = entry-parts _ _ _ _ _ c.if-c-ge-STOP.false c.put_word-a.ensures (rw (behind-over c.args.c _ _ _ (omega arith) (omega arith) (omega arith)) (record { is = refl }))
