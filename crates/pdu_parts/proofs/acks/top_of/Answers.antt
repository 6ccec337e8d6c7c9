use Rattle.pdu_parts.proofs.Entries.{entry-rest}
use Rattle.pdu_parts.proofs.acks.top_of.Goals as goal

pub returns-in_default : goal.returns-in_default
returns-in_default c = entry-rest _ c.in_default.in_default-own.rest.0.1 c.in_default.in_default-own.rest.1
