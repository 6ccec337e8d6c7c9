use Rattle.pdu_parts.proofs.ListLaws.{entry-marked-inks, entry-plain-inks}
use Rattle.pdu_parts.proofs.lists.write_entry.Goals as goal

pub returns-then-marked : goal.returns-then-marked
returns-then-marked c = entry-marked-inks _ _ c.if-marked.true c.extension-p.ensures c.num.ensures

pub returns : goal.returns
returns c = entry-plain-inks _ _ c.if-marked.false c.num-2.ensures
