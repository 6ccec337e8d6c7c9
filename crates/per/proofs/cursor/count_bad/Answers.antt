use borrow.Author.Tests.{le-leb, lt-leb}
use Rattle.per.proofs.cursor.count_bad.Goals as goal

pub returns-then-v-le16 : goal.returns-then-v-le16
returns-then-v-le16 c = rw (le-leb _ _ c.if-v-le16.true)

pub returns-else-v-le16 : goal.returns-else-v-le16
returns-else-v-le16 c = rw (lt-leb _ _ c.if-v-le16.false)
