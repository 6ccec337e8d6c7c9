-- The parts of PDUs are refused by 0 or the number of a refusal alone. Assumes nothing.
use Prim.Native.Nat.{ℕ}
use mathlib.Core.Bool.{Bool, true, false}
use Rattle.refusals.specs.declared.Refusal.TheVariants as why
use Rattle.per.proofs.Within.{◌then◌, all, each_arm}
use Rattle.per.proofs.Named.{Refuses, named, named_unless, names, of-recast}
use Rattle.pdu_parts.specs.Lists.{listed, entry_c}
use Rattle.pdu_parts.specs.Vectors.{ground_vector_c, air_speed_c, air_vector_c, weather_c}
use Rattle.pdu_parts.specs.Reports.{angle_c, position_c, time_c, merit_c, fix_c, report_c, emergency_report_c}
use Rattle.pdu_parts.specs.Interval.{interval_arms, interval_alt, interval_c, interval_if, moduli_c, parts_c}
use Rattle.pdu_parts.specs.Periodic.{periodic_c}

-- ---- lists
entry-named : (marked : Bool) (top : ℕ) → Refuses (entry_c marked top)
unfolding entry_c
entry-named true top = search names
entry-named false top = search names

pub listed-named : (m : ℕ) (marked : Bool) (top : ℕ) → Refuses (listed m (entry_c marked top))
unfolding listed
listed-named m marked top = search (names, entry-named)

-- ---- reports
angle-named : (top : ℕ) → Refuses (angle_c top)
unfolding angle_c
angle-named top = search names depth 12

position-named : Refuses position_c
unfolding position_c
position-named = search (names, angle-named) depth 12

time-named : Refuses time_c
unfolding time_c
time-named = search names depth 16

merit-named : Refuses merit_c
unfolding merit_c
merit-named = search names depth 12

fix-named : Refuses fix_c
unfolding fix_c
fix-named = search (names, position-named, time-named, merit-named) depth 12

ground-vector-named : Refuses ground_vector_c
unfolding ground_vector_c
ground-vector-named = search names depth 16

air-speed-named : Refuses air_speed_c
unfolding air_speed_c
air-speed-named = search names depth 16

air-vector-named : Refuses air_vector_c
unfolding air_vector_c
air-vector-named = search (names, air-speed-named) depth 16

weather-named : Refuses weather_c
unfolding weather_c
weather-named = search names depth 16

pub report-named : Refuses report_c
unfolding report_c
report-named = search (names, fix-named, ground-vector-named, air-vector-named, weather-named) depth 20

pub emergency-named : Refuses emergency_report_c
unfolding emergency_report_c
emergency-named = search (names, fix-named, ground-vector-named) depth 16

-- ---- intervals, and periodic contracts
interval-each : (i : ℕ) → Refuses (interval_alt i).codec
interval-each = each_arm (λ c. Refuses c) interval_arms _ (search names then search names then all) (search names)

pub interval-named : Refuses interval_c
unfolding interval_c
interval-named = search (names, interval-each)

parts-named : Refuses parts_c
unfolding interval_if moduli_c
parts-named = search (names, interval-named) depth 12

pub periodic-named : Refuses periodic_c
unfolding periodic_c
periodic-named = of-recast _ _ _ _ _ _ _ parts-named (λ a. named_unless _ _ (named why.OutOfRange))
