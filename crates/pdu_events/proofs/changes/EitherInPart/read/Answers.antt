use Rattle.per.proofs.Compose.{by, like}
use Rattle.pdu_events.specs.Changes.{either_c}
use Rattle.pdu_events.proofs.changes.EitherInPart.read.Goals as goal

pub returns : goal.returns
unfolding either_c
returns g c = like _ _ _ _ (by _ c.index-kind.ensures (rw c.top_of.ensures at c.num-number.ensures))
