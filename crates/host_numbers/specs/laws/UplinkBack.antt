-- A value's numbers are that value's again. A number with a sign is one that 32 bits hold.
use Rattle.std.specs.Prelude.{◌≡◌, refl}
use Rattle.std.proofs.Common.{ap}
use Rattle.pdu_parts.specs.declared.interval.Interval.{Interval}
use Rattle.pdu_parts.specs.declared.interval.Interval.TheVariants.{Seconds, Minutes}
use Rattle.pdu.specs.declared.uplink.Ground.{Ground}
use Rattle.pdu.specs.declared.uplink.Ground.TheVariants as ground
use Rattle.pdu_events.specs.declared.changes.Changes.{Changes}
use Rattle.host_numbers.specs.ChangeNumbers.{flat_changes, changes_at}
use Rattle.host_numbers.specs.laws.ReportBack.{Holds, signed_back}
use Rattle.host_numbers.specs.UplinkNumbers.{interval_of, scale_of, times_of, flat_ground, ground_at}

pub interval-back : (i : Interval) → interval_of (scale_of i) (times_of i) ≡ i
interval-back (Seconds n) = refl
interval-back (Minutes n) = refl

-- the numbers with a sign of an event contract
pub record ChangesHold (a : Changes) : Type 0 where
  pub rate : Holds a.rate
  pub ceiling : Holds a.range.ceiling
  pub floor : Holds a.range.floor

changes-back : (a : Changes) → ChangesHold a → changes_at (flat_changes a) ≡ a
unfolding changes_at
changes-back a h = rw (signed_back a.rate h.rate, signed_back a.range.ceiling h.ceiling, signed_back a.range.floor h.floor)

abbrev pub GroundHolds : Ground → Type 0
GroundHolds ground.CancelAll = Unit {0}
GroundHolds (ground.CancelContract n) = Unit {0}
GroundHolds ground.CancelEmergencyAck = Unit {0}
GroundHolds (ground.DemandContract v) = Unit {0}
GroundHolds (ground.EventContract a) = ChangesHold a
GroundHolds (ground.ModifyEmergency i) = Unit {0}
GroundHolds (ground.PeriodicContract a) = Unit {0}
GroundHolds (ground.Abort n) = Unit {0}

pub ground-back : (g : Ground) → GroundHolds g → ground_at (flat_ground g) ≡ g
unfolding ground_at flat_ground
ground-back ground.CancelAll h = refl
ground-back (ground.CancelContract n) h = refl
ground-back ground.CancelEmergencyAck h = refl
ground-back (ground.DemandContract v) h = refl
ground-back (ground.EventContract a) h = ap ground.EventContract (changes-back a h)
ground-back (ground.ModifyEmergency i) h = ap ground.ModifyEmergency (interval-back i)
ground-back (ground.PeriodicContract a) h = rw (interval-back a.interval)
ground-back (ground.Abort n) h = refl
