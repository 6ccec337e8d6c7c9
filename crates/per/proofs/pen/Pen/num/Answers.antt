use mathlib.Core.Path.{refl}
use Rattle.per.specs.Formats.{num, num_field}
use Rattle.per.proofs.Inks.{inks-kept, field-barred, field-inked}
use Rattle.per.proofs.Checks.{num-low, num-high, num-good}
use Rattle.per.proofs.pen.Pen.num.Goals as goal
use Rattle.per.proofs.pen.Pen.num.Goals.{then-v-lo-via-then-v-lo, then-v-lo-via-else-v-lo+then-hi-v}

pub returns-then-self-ne0 : goal.returns-then-self-ne0
returns-then-self-ne0 c = inks-kept (num _ _) _ _ _ c.if-self-ne0.true

pub returns-then-v-lo : goal.returns-then-v-lo
returns-then-v-lo c = rw c.number.ensures.is (field-barred (num_field _ _) 4 c.if-self-ne0.false (elim c.then-v-lo.branch [
  | then-v-lo-via-then-v-lo w ↦ num-low _ _ _ w.if-v-lo.true
  | then-v-lo-via-else-v-lo+then-hi-v w ↦ num-high _ _ _ w.if-v-lo.false w.if-hi-v.true
]))

pub returns : goal.returns
returns c = field-inked (num_field _ _) c.if-self-ne0.false (num-good _ _ _ c.if-v-lo.false c.if-hi-v.false) c.width_of.ensures.0 refl c.ink.ensures
