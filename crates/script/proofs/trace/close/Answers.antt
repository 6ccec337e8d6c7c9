use mathlib.Core.Path.{refl}
use Rattle.script.proofs.trace.close.Goals as goal

pub returns-then-failed : goal.returns-then-failed
returns-then-failed c = record { failed_is = refl; text_is = rw c.if-failed.true (record { is = refl }) }

pub returns : goal.returns
returns c = record { failed_is = refl; text_is = rw c.if-failed.false c.put_end-a.ensures }
