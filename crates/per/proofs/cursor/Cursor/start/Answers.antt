use borrow.Author.Tests.{le-leb, lt-leb}
use Rattle.per.specs.Pdu.{start}
use Rattle.per.proofs.cursor.Cursor.start.Goals as goal

pub returns-then-s-le128 : goal.returns-then-s-le128
unfolding start
returns-then-s-le128 c = rw (le-leb _ _ c.if-s-le128.true)

pub returns : goal.returns
unfolding start
returns c = rw (c.number.ensures.is, lt-leb _ _ c.if-s-le128.false)
