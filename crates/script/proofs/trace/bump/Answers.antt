use borrow.Author.Tests.{lt-ltb, le-ltb}
use Rattle.script.specs.Trace.{bumped}
use Rattle.script.proofs.trace.bump.Goals as goal

pub returns-then-n-lt18446744073709551615 : goal.returns-then-n-lt18446744073709551615
unfolding bumped
returns-then-n-lt18446744073709551615 c = rw (lt-ltb _ _ c.if-n-lt18446744073709551615.true)

pub returns : goal.returns
unfolding bumped
returns c = rw (le-ltb _ _ c.if-n-lt18446744073709551615.false)
