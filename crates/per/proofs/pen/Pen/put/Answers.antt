use mathlib.Core.Path.{refl}
use Rattle.per.specs.Formats.{run, run_field}
use Rattle.per.proofs.Inks.{inks-kept, field-barred, field-inked}
use Rattle.per.proofs.Checks.{run-wide, run-high, run-good}
use Rattle.per.proofs.pen.Pen.put.Goals as goal
use Rattle.per.proofs.pen.Pen.put.Goals.{then-w-gt32-via-then-w-gt32, then-w-gt32-via-else-w-gt32+then-pow2-v}

pub returns-then-self-ne0 : goal.returns-then-self-ne0
returns-then-self-ne0 c = inks-kept (run _) _ _ _ c.if-self-ne0.true

pub returns-then-w-gt32 : goal.returns-then-w-gt32
returns-then-w-gt32 c = rw c.number.ensures.is (field-barred (run_field _) 4 c.if-self-ne0.false (elim c.then-w-gt32.branch [
  | then-w-gt32-via-then-w-gt32 w ↦ run-wide _ _ w.if-w-gt32.true
  | then-w-gt32-via-else-w-gt32+then-pow2-v w ↦ run-high _ _ _ w.if-w-gt32.false w.pow2.ensures w.if-pow2-v.true
]))

pub returns : goal.returns
returns c = field-inked (run_field _) c.if-self-ne0.false (run-good _ _ _ c.if-w-gt32.false c.pow2.ensures c.if-pow2-v.false) refl refl c.ink.ensures
