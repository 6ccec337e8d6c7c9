-- PDUs of both sides are refused by 0 or the number of a refusal alone. Assumes nothing.
use Prim.Native.Nat.{ℕ}
use Rattle.per.proofs.Within.{◌then◌, all, each_arm}
use Rattle.per.proofs.Named.{Refuses, names}
use Rattle.pdu_events.proofs.ChangeNames.{changes-named}
use Rattle.pdu_parts.proofs.PartNames.{listed-named, report-named, emergency-named, interval-named, periodic-named}
use Rattle.pdu_parts.specs.AirParts.{acked_c, acked_emergency_c, event_report_c, negative_c, noncompliance_c}
use Rattle.pdu.specs.DownlinkTable.{air_arms, air_alt, air_c}
use Rattle.pdu.specs.UplinkTable.{ground_arms, ground_alt, ground_c}

-- ---- aircraft PDUs
acked-named : Refuses acked_c
unfolding acked_c
acked-named = search (names, report-named) depth 12

acked-emergency-named : Refuses acked_emergency_c
unfolding acked_emergency_c
acked-emergency-named = search (names, emergency-named) depth 12

event-named : Refuses event_report_c
unfolding event_report_c
event-named = search (names, report-named) depth 12

negative-named : Refuses negative_c
unfolding negative_c
negative-named = search (names, listed-named) depth 12

noncompliance-named : Refuses noncompliance_c
unfolding noncompliance_c
noncompliance-named = search (names, listed-named) depth 12

air-each : (i : ℕ) → Refuses (air_alt i).codec
unfolding air_alt
air-each =
    each_arm (λ c. Refuses c) air_arms _
    (search names
    then search (names, acked-named)
    then search (names, acked-emergency-named)
    then search (names, event-named)
    then search (names, negative-named)
    then search (names, noncompliance-named)
    then search (names, acked-named)
    then search names
    then search names
    then all)
    (search names)

pub air-named : Refuses air_c
unfolding air_c
air-named = search (names, air-each)

-- ---- ground PDUs
ground-each : (i : ℕ) → Refuses (ground_alt i).codec
unfolding ground_alt
ground-each =
    each_arm (λ c. Refuses c) ground_arms _
    (search names
    then search names
    then search names
    then search names
    then search (names, changes-named)
    then search (names, interval-named)
    then search (names, periodic-named)
    then search names
    then all)
    (search names)

pub ground-named : Refuses ground_c
unfolding ground_c
ground-named = search (names, ground-each)
