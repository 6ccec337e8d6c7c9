use borrow.Author.Tests.{ne_eqb}
use Rattle.pdu_events.proofs.changes.top_of.Goals as goal

pub returns-then-kind-eq0 : goal.returns-then-kind-eq0
returns-then-kind-eq0 c = rw c.if-kind-eq0.true

pub returns-else-kind-eq0 : goal.returns-else-kind-eq0
returns-else-kind-eq0 c = rw (ne_eqb _ _ c.if-kind-eq0.false)
