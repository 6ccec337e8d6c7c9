use Rattle.per.proofs.Compose.{then, like}
use Rattle.pdu_parts.specs.Reports.{fix_c}
use Rattle.pdu_parts.proofs.report.read_fix_fields.Goals as goal

pub returns : goal.returns
unfolding fix_c
returns c = like _ _ _ _ (then c.read-position.ensures (then c.read-time.ensures c.read-merit.ensures))
