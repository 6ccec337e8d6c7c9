use Rattle.per.proofs.Compose.{then, like}
use Rattle.pdu_events.specs.Changes.{level_range_c}
use Rattle.pdu_events.proofs.changes.LevelRangePart.read.Goals as goal

pub returns : goal.returns
unfolding level_range_c
returns c = like _ _ _ _ (then c.signed-ceiling.ensures c.signed-floor.ensures)
