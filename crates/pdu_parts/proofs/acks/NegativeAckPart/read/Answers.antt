use Rattle.per.proofs.Compose.{then, by, like, after-ext}
use Rattle.pdu_parts.specs.AirParts.{negative_c}
use Rattle.pdu_parts.proofs.acks.NegativeAckPart.read.Goals as goal

pub returns : goal.returns
unfolding negative_c
returns c = like _ _ _ _ (then (after-ext c.extension.ensures c.num-request.ensures) (by _ (after-ext c.extension-2.ensures c.num-reason.ensures) c.read_if-names.ensures))
