use Rattle.per.proofs.Compose.{then, by, like}
use Rattle.pdu_events.specs.Changes.{changes_c}
use Rattle.pdu_events.proofs.changes.ChangesPart.read.Goals as goal

pub returns : goal.returns
unfolding changes_c
returns c = like _ _ _ _ (by _ c.mask-bits.ensures (then (rw c.present.ensures at c.num_if-lateral.ensures) (then (rw c.present-2.ensures at c.read_if-rate.ensures) (then (rw c.present-3.ensures at c.read_if-range.ensures) (then (rw c.present-4.ensures at c.read_if-air.ensures) (then (rw c.present-5.ensures at c.num_if-over_ground.ensures) (then (rw c.present-6.ensures at c.num_if-heading.ensures) (then (rw c.present-7.ensures at c.read_if-profile.ensures) (then (rw c.present-8.ensures at c.num_if-track.ensures) (rw c.present-9.ensures at c.num_if-level.ensures))))))))))
