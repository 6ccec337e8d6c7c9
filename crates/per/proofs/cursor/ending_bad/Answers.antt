use native.Mathlib.Omega.{arith}
use Rattle.per.proofs.Octets.{window-most}
use Rattle.per.proofs.Ends.{ending-past, ending-13, ending-14, ending-0}
use Rattle.per.proofs.cursor.ending_bad.Goals as goal

pub returns-then-end-at : goal.returns-then-end-at
returns-then-end-at c = ending-past _ _ _ c.room-end.ensures c.if-end-at.true

pub returns-then-octet_rest-ne0 : goal.returns-then-octet_rest-ne0
returns-then-octet_rest-ne0 c = ending-13 _ _ _ c.octet_rest.ensures c.if-octet_rest-ne0.true

pub overflow_add-at : goal.overflow_add-at
overflow_add-at c = omega (arith, window-most c.args.s.now)

pub returns-then-at-end : goal.returns-then-at-end
returns-then-at-end c = ending-14 _ _ _ _ c.octet_rest.ensures c.if-octet_rest-ne0.false c.room-end.ensures c.if-at-end.true

pub returns : goal.returns
returns c = ending-0 _ _ _ _ c.octet_rest.ensures c.if-octet_rest-ne0.false c.room-end.ensures c.if-at-end.false
