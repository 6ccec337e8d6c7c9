use Rattle.per.proofs.Compose.{then, like}
use Rattle.pdu_parts.specs.Reports.{angle_c}
use Rattle.pdu_parts.proofs.position.AngleToPart.read.Goals as goal

pub returns : goal.returns
unfolding angle_c
returns g c = like _ _ _ _ (then c.flag-minus.ensures (then c.num-degrees.ensures (then c.num-minutes.ensures c.num-tenths.ensures)))
