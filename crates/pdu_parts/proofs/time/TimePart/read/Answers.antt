use Rattle.per.proofs.Compose.{then, by, like}
use Rattle.pdu_parts.specs.Reports.{time_c}
use Rattle.pdu_parts.proofs.time.TimePart.read.Goals as goal

pub returns : goal.returns
unfolding time_c
returns c = like _ _ _ _ (then c.num-year.ensures (then c.num-month.ensures (then c.num-day.ensures (by _ c.flag-has.ensures
    (then c.num-hours.ensures (then c.num-minutes.ensures c.num_if-seconds.ensures))))))
