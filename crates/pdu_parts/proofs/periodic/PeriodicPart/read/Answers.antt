use Rattle.per.proofs.Compose.{then, by, recast-like}
use Rattle.pdu_parts.specs.Interval.{interval_if, moduli_c}
use Rattle.pdu_parts.specs.Periodic.{periodic_c}
use Rattle.pdu_parts.proofs.periodic.PeriodicPart.read.Goals as goal

pub returns : goal.returns
unfolding periodic_c moduli_c interval_if
returns c = recast-like _ _ _ _ _ _ (by _ c.mask-bits.ensures (then (rw c.present.ensures at c.read_if-interval.ensures)
    (then (rw c.present-2.ensures at c.num_if-address.ensures) (then (rw c.present-3.ensures at c.num_if-profile.ensures)
    (then (rw c.present-4.ensures at c.num_if-over_ground.ensures) (then (rw c.present-5.ensures at c.num_if-air.ensures)
    (rw c.present-6.ensures at c.num_if-weather.ensures)))))))
