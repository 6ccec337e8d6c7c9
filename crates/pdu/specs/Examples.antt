-- The bench examples of 01, P1 to P13, as one table: the family, the octets, and what they read as.
use Rattle.std.specs.Prelude.{ℕ, false, List, [], ◌∷◌, pos, length, replicate}
use Rattle.per.specs.Pdu.{Answer, got, refused, read_pdu}
use Rattle.per.specs.Writing.{Delivered, write_pdu}
use Rattle.per.specs.Written.{Written, Octets, Refused}
use Rattle.pdu_events.specs.declared.changes.Changes.{Changes}
use Rattle.pdu_events.specs.Changes.{no_range, no_either}
use Rattle.pdu_events.specs.Elements.{WAYPOINT-CHANGE}
use Rattle.pdu_parts.specs.Vectors.{none, no_ground_vector, no_air_vector, no_weather}
use Rattle.pdu_parts.specs.declared.position.Angle.{Angle}
use Rattle.pdu_parts.specs.declared.report.Report.{Report}
use Rattle.pdu_parts.specs.declared.interval.Interval.TheVariants.{Minutes}
use Rattle.pdu_parts.specs.declared.periodic.Periodic.{Periodic}
use Rattle.pdu.specs.declared.uplink.Ground.{Ground}
use Rattle.pdu.specs.declared.uplink.Ground.TheVariants.{CancelContract, DemandContract, EventContract, ModifyEmergency, PeriodicContract}
use Rattle.pdu.specs.declared.uplink.Ground as ground
use Rattle.pdu.specs.UplinkTable.{no_period, ground_c}
use Rattle.pdu.specs.declared.downlink.Air.TheVariants.{CancelEmergency, Demand, Negative, Positive}
use Rattle.pdu.specs.declared.downlink.Air as air
use Rattle.pdu.specs.declared.downlink.AirPdu.{AirPdu}
use Rattle.pdu.specs.DownlinkTable.{air_c, bare_air}
use Rattle.refusals.specs.Refusals.{CUT-SHORT}

-- octets from the air or from the ground, and what they read as; `up_as` with the octets that it is written as, where these are others
pub data Example : Type 0 where
  down : List ℕ → Answer AirPdu → Example
  up : List ℕ → Answer Ground → Example
  up_as : List ℕ → Answer Ground → List ℕ → Example

abbrev pub zero_angle : Angle
zero_angle = record { minus = false; degrees = 0; minutes = 0; tenths = 0 }

-- "all zero, level 0, 1996-01-01 00:00, no seconds"
abbrev pub plain_report : Report
plain_report = record {
  elements = 0;
  fix = record {
    position = record { latitude = zero_angle; longitude = zero_angle; level = record { number = pos 0 } };
    time = record { year = 1996; month = 1; day = 1; has_seconds = false; hours = 0; minutes = 0; seconds = 0 };
    merit = record { accuracy = 0; units = false; avoidance = false };
  };
  address = 0;
  over_ground = no_ground_vector;
  air = no_air_vector;
  weather = no_weather;
}

abbrev pub one_minute : Periodic
one_minute = record { interval = Minutes 1; elements = 0; address = 0; profile = 0; over_ground = 0; air = 0; weather = 0 }

abbrev pub waypoint : Changes
waypoint = record { elements = WAYPOINT-CHANGE; lateral = 0; rate = none; range = no_range; air = no_either; over_ground = 0; heading = 0; profile = no_either; track = 0; level = 0 }

-- P1 cancel-emergency; P2 ground abort 4; P3 air abort 4; P4 cancel-contract periodic; P5 positive ack periodic; P6 negative ack demand, reason 3;
-- P7 modify to 5 minutes; P8 empty demand contract; P9 waypoint event contract; P10 periodic, 1 minute; P11 periodic, 5 minutes, written without them; P12 empty input: 7, in
-- both families; P13 plain demand report
abbrev pub examples : List Example
examples =
    down (0 ∷ []) (got (bare_air CancelEmergency))
    ∷ up (116 ∷ []) (got (ground.TheVariants.Abort 4))
    ∷ down (66 ∷ 0 ∷ []) (got (bare_air (air.TheVariants.Abort 4)))
    ∷ up (20 ∷ []) (got (CancelContract 1))
    ∷ down (56 ∷ 128 ∷ []) (got (bare_air (Positive 1)))
    ∷ down (33 ∷ 48 ∷ []) (got (bare_air (Negative (record { request = 2; reason = 3 }))))
    ∷ up (88 ∷ 64 ∷ []) (got (ModifyEmergency (Minutes 5)))
    ∷ up (48 ∷ 0 ∷ []) (got (DemandContract 0))
    ∷ up (64 ∷ 128 ∷ []) (got (EventContract waypoint))
    ∷ up (100 ∷ 4 ∷ 0 ∷ []) (got (PeriodicContract one_minute))
    ∷ up_as (100 ∷ 4 ∷ 32 ∷ []) (got (PeriodicContract no_period)) (96 ∷ 0 ∷ [])
    ∷ up [] (refused CUT-SHORT)
    ∷ down [] (refused CUT-SHORT)
    ∷ down (8 ∷ 0 ∷ 0 ∷ 0 ∷ 0 ∷ 0 ∷ 0 ∷ 0 ∷ 1 ∷ 44 ∷ 0 ∷ 0 ∷ 0 ∷ 0 ∷ []) (got (bare_air (Demand (record { ack = false; report = plain_report }))))
    ∷ []

-- each example as the codecs read its octets
unfoldable pub reread : Example → Example
reread (down s a) = down s (read_pdu air_c s)
reread (up s a) = up s (read_pdu ground_c s)
reread (up_as s a o) = up_as s (read_pdu ground_c s) o

-- the octets of a write that is accepted
abbrev pub if_written : Written → List ℕ → List ℕ
if_written (Octets n) o = o
if_written (Refused n) o = []

abbrev pub accepted : Delivered → List ℕ
accepted d = if_written d.answer d.octets

-- each example as the codecs write its value, into an output that is just long enough
unfoldable pub rewritten : Example → Example
rewritten (down s (got a)) = down (accepted (write_pdu air_c a (replicate (length s) 255))) (got a)
rewritten (down s (refused n)) = down s (refused n)
rewritten (up s (got g)) = up (accepted (write_pdu ground_c g (replicate (length s) 255))) (got g)
rewritten (up s (refused n)) = up s (refused n)
rewritten (up_as s (got g) o) = up_as s (got g) (accepted (write_pdu ground_c g (replicate (length o) 255)))
rewritten (up_as s (refused n) o) = up_as s (refused n) o

unfoldable pub all : (Example → Example) → List Example → List Example
all f [] = []
all f (e ∷ l) = f e ∷ all f l
