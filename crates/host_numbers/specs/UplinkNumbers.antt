-- A ground PDU as 21 numbers: 0 its kind, the index of 01's table; 1 what goes with it (the contract to cancel, presence bits, the reason of an abort);
-- 2 an interval's scale, 0 seconds or 1 minutes, and 3 its number; 4 to 8 the moduli of a periodic contract; 9 to 20 what an event contract asks to be
-- told of. What a kind has not is 0.
use Rattle.std.specs.Prelude.{List, [], ◌∷◌, ℕ, zero, suc, get_or, replicate}
use Rattle.pdu_parts.specs.declared.interval.Interval.{Interval}
use Rattle.pdu_parts.specs.declared.interval.Interval.TheVariants.{Seconds, Minutes}
use Rattle.pdu_parts.specs.declared.periodic.Periodic.{Periodic}
use Rattle.pdu.specs.declared.uplink.Ground.{Ground}
use Rattle.pdu.specs.declared.uplink.Ground.TheVariants.{CancelAll, CancelContract, CancelEmergencyAck, DemandContract, EventContract, ModifyEmergency, PeriodicContract, Abort}
use Rattle.host_numbers.specs.ChangeNumbers.{flat_changes, changes_at}
use Rattle.host_numbers.specs.Places.{G-KIND, G-WHAT, G-SCALE, G-INTERVAL, G-ADDRESS, G-PROFILE, G-GROUND-VECTOR, G-AIR-VECTOR, G-WEATHER}

abbrev pub scale_of : Interval → ℕ
scale_of (Seconds n) = 0
scale_of (Minutes n) = 1

abbrev pub times_of : Interval → ℕ
times_of (Seconds n) = n
times_of (Minutes n) = n

abbrev pub pair_of : ℕ → ℕ → List ℕ
pair_of kind n = kind ∷ n ∷ replicate 19 0

abbrev pub flat_modify : Interval → List ℕ
flat_modify i = 5 ∷ 0 ∷ scale_of i ∷ times_of i ∷ replicate 17 0

abbrev pub flat_periodic : Periodic → List ℕ
flat_periodic a =
    6 ∷ a.elements ∷ scale_of a.interval ∷ times_of a.interval ∷ a.address ∷ a.profile ∷ a.over_ground ∷ a.air ∷ a.weather ∷ replicate 12 0

unfoldable pub flat_ground : Ground → List ℕ
flat_ground CancelAll = pair_of 0 0
flat_ground (CancelContract n) = pair_of 1 n
flat_ground CancelEmergencyAck = pair_of 2 0
flat_ground (DemandContract v) = pair_of 3 v
flat_ground (EventContract a) = flat_changes a
flat_ground (ModifyEmergency i) = flat_modify i
flat_ground (PeriodicContract a) = flat_periodic a
flat_ground (Abort n) = pair_of 7 n

-- and back. Numbers that are not there are 0. A scale over 1 gives 0 seconds, a kind over 7 an abort of reason 8: the writer refuses both with 5
abbrev pub interval_of : ℕ → ℕ → Interval
interval_of zero n = Seconds n
interval_of (suc zero) n = Minutes n
interval_of (suc (suc k)) n = Seconds 0

abbrev pub periodic_at : List ℕ → Periodic
periodic_at f =
    record {
      interval = interval_of (get_or f G-SCALE 0) (get_or f G-INTERVAL 0);
      elements = get_or f G-WHAT 0;
      address = get_or f G-ADDRESS 0;
      profile = get_or f G-PROFILE 0;
      over_ground = get_or f G-GROUND-VECTOR 0;
      air = get_or f G-AIR-VECTOR 0;
      weather = get_or f G-WEATHER 0;
    }

-- by the index of 01's table
abbrev pub ground_kinds : List ℕ → List Ground
ground_kinds f =
    CancelAll
    ∷ CancelContract (get_or f G-WHAT 0)
    ∷ CancelEmergencyAck
    ∷ DemandContract (get_or f G-WHAT 0)
    ∷ EventContract (changes_at f)
    ∷ ModifyEmergency (interval_of (get_or f G-SCALE 0) (get_or f G-INTERVAL 0))
    ∷ PeriodicContract (periodic_at f)
    ∷ Abort (get_or f G-WHAT 0)
    ∷ []

unfoldable pub ground_at : List ℕ → Ground
ground_at f = get_or (ground_kinds f) (get_or f G-KIND 0) (Abort 8)
