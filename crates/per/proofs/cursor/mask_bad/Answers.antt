use borrow.Author.Tests.{eq-eqb, ne_eqb}
use Rattle.per.proofs.cursor.mask_bad.Goals as goal
use Rattle.per.proofs.cursor.mask_bad.Goals.{else-need-via-then-need+else-v-eq0, else-need-via-else-need}

pub returns-then-v-carried : goal.returns-then-v-carried
returns-then-v-carried c = rw (ne_eqb _ _ c.if-v-carried.true)

pub returns-then-v-eq0 : goal.returns-then-v-eq0
returns-then-v-eq0 c = rw (eq-eqb _ _ c.if-v-carried.false, c.if-need.true, eq-eqb _ _ c.if-v-eq0.true)

pub returns : goal.returns
returns c = elim c.else-need.branch [
  | else-need-via-then-need+else-v-eq0 w ↦ rw (eq-eqb _ _ c.if-v-carried.false, w.if-need.true, ne_eqb _ _ w.if-v-eq0.false)
  | else-need-via-else-need w ↦ rw (eq-eqb _ _ c.if-v-carried.false, w.if-need.false)
]
