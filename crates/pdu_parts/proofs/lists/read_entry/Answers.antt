use Rattle.pdu_parts.proofs.ListLaws.{entry-marked, entry-plain}
use Rattle.pdu_parts.proofs.lists.read_entry.Goals as goal

pub returns-then-marked : goal.returns-then-marked
returns-then-marked c = entry-marked _ _ c.if-marked.true c.extension.ensures c.num.ensures

pub returns : goal.returns
returns c = entry-plain _ _ c.if-marked.false c.num-2.ensures
