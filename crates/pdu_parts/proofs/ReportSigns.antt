-- What is read back of a report that may be written has numbers with a sign of -10000 to 10000: level, speed, rates, temperature. Assumes nothing.
use Prim.Native.Nat.{ℕ, suc, ◌≤◌}
use mathlib.Core.Path.{◌≡◌}
use mathlib.Core.Bool.{Bool, true, false}
use native.Mathlib.Omega.{arith}
use borrow.Author.Tests.{leb-true}
use lib.Dec.{leb, lit≤}
use lib.IntN.{ℤ, pos, negsuc}
use lib.Signed.{mag}
use Rattle.per.specs.Codec.{first}
use Rattle.per.specs.Field.{raised_chk}
use Rattle.per.specs.Formats.{field, dep, via, only, absent, when, has, pair, mask, signed}
use Rattle.per.specs.declared.cursor.Signed.{Signed}
use Rattle.per.specs.laws.Codec.{first-0, first-1, unless-true}
use Rattle.pdu_parts.specs.declared.position.Position.{Position}
use Rattle.pdu_parts.specs.declared.report.Fix.{Fix}
use Rattle.pdu_parts.specs.declared.report.Report.{Report}
use Rattle.pdu_parts.specs.declared.report.EmergencyReport.{EmergencyReport}
use Rattle.pdu_parts.specs.declared.vectors.GroundVector.{GroundVector}
use Rattle.pdu_parts.specs.declared.vectors.AirVector.{AirVector}
use Rattle.pdu_parts.specs.declared.vectors.Weather.{Weather}
use Rattle.pdu_parts.specs.Elements.{ADDRESS, GROUND-VECTOR, AIR-VECTOR, WEATHER, REPORT-BITS, REPORT-CARRIED, EMERGENCY-ADDRESS, EMERGENCY-GROUND-VECTOR, EMERGENCY-BITS, EMERGENCY-CARRIED, TRACK, GROUND-SPEED, GROUND-RATE, HEADING, AIR-SPEED, AIR-RATE, VECTOR-BITS, WIND-SPEED, WIND-DIRECTION, TEMPERATURE, TURBULENCE, WEATHER-BITS}
use Rattle.pdu_parts.specs.Vectors.{none, num_at, signed_at, rate_at, ground_vector_c, no_ground_vector, air_speed_c, no_speed, air_vector_c, no_air_vector, weather_c, no_weather}
use Rattle.pdu_parts.specs.Reports.{address, angle_c, time_c, merit_c, position_c, fix_c, report_c, emergency_report_c}

abbrev pub Small : Signed → Type 0
Small v = mag v.number ≤ 10000

pub raised-small : (k hi : ℕ) (z : ℤ) → k ≤ 10000 → hi ≤ 10000 → raised_chk k hi z ≡ 0 → mag z ≤ 10000
raised-small k hi (pos n) a b h = let m = leb-true n hi (unless-true (leb n hi) 4 h) in omega (arith, m, b)
raised-small k hi (negsuc n) a b h = let m = leb-true (suc n) k (unless-true (leb (suc n) k) 4 h) in omega (arith, m, a)

-- a number that is absent reads as 0
pub signed-small : (p : Bool) (k hi : ℕ) (v : Signed) → k ≤ 10000 → hi ≤ 10000 → (when p none (signed k hi)).chk v ≡ 0 → Small ((when p none (signed k hi)).norm v)
unfolding when absent field
signed-small true k hi v a b h = raised-small k hi v.number a b h
signed-small false k hi v a b h = lit≤ tt

position-small : (a : Position) → position_c.chk a ≡ 0 → Small a.level
unfolding position_c via dep field
position-small a h =
    let level = raised_chk 75 10000 a.level.number in
    let both = first-1 ((angle_c 90).chk a.latitude) (first ((angle_c 180).chk a.longitude) level) h in
    raised-small 75 10000 a.level.number (lit≤ tt) (lit≤ tt) (first-1 ((angle_c 180).chk a.longitude) level both)

fix-small : (a : Fix) → fix_c.chk a ≡ 0 → Small (fix_c.norm a).position.level
unfolding fix_c position_c via dep field
fix-small a h = position-small a.position (first-0 (position_c.chk a.position) ((pair time_c merit_c).chk (a.time, a.merit)) h)

-- ---- the vectors and weather, as they read back
abbrev pub GroundSmall : GroundVector → Type 0
GroundSmall a = Small a.speed × Small a.rate

abbrev pub AirSmall : AirVector → Type 0
AirSmall a = Small a.rate

abbrev pub WeatherSmall : Weather → Type 0
WeatherSmall a = Small a.temperature

ground-small : (p : Bool) (a : GroundVector) → (when p no_ground_vector ground_vector_c).chk a ≡ 0 → GroundSmall ((when p no_ground_vector ground_vector_c).norm a)
unfolding when absent ground_vector_c via dep only field
ground-small false a h = (lit≤ tt, lit≤ tt)
ground-small true a h =
    let v = a.elements in
    let speed = (signed_at GROUND-SPEED v 50 2200).chk a.speed in
    let rate = (rate_at GROUND-RATE v).chk a.rate in
    let both = first-1 ((num_at TRACK v 1 3600).chk a.track) (first speed rate) (first-1 ((mask VECTOR-BITS VECTOR-BITS false).chk v) (first ((num_at TRACK v 1 3600).chk a.track) (first speed rate)) h) in
    (signed-small (has GROUND-SPEED v) 50 2200 a.speed (lit≤ tt) (lit≤ tt) (first-0 speed rate both), signed-small (has GROUND-RATE v) 3000 3000 a.rate (lit≤ tt) (lit≤ tt) (first-1 speed rate both))

air-small : (p : Bool) (a : AirVector) → (when p no_air_vector air_vector_c).chk a ≡ 0 → AirSmall ((when p no_air_vector air_vector_c).norm a)
unfolding when absent air_vector_c via dep only field
air-small false a h = lit≤ tt
air-small true a h =
    let v = a.elements in
    let heading = (num_at HEADING v 1 3600).chk a.heading in
    let speed = (when (has AIR-SPEED v) no_speed air_speed_c).chk a.speed in
    let rate = (rate_at AIR-RATE v).chk a.rate in
    let both = first-1 heading (first speed rate) (first-1 ((mask VECTOR-BITS VECTOR-BITS false).chk v) (first heading (first speed rate)) h) in
    signed-small (has AIR-RATE v) 3000 3000 a.rate (lit≤ tt) (lit≤ tt) (first-1 speed rate both)

weather-small : (p : Bool) (a : Weather) → (when p no_weather weather_c).chk a ≡ 0 → WeatherSmall ((when p no_weather weather_c).norm a)
unfolding when absent weather_c via dep only field
weather-small false a h = lit≤ tt
weather-small true a h =
    let v = a.elements in
    let speed = (num_at WIND-SPEED v 0 300).chk a.speed in
    let from = (num_at WIND-DIRECTION v 1 360).chk a.direction in
    let warm = (signed_at TEMPERATURE v 400 400).chk a.temperature in
    let rough = (num_at TURBULENCE v 0 15).chk a.turbulence in
    let three = first-1 speed (first from (first warm rough)) (first-1 ((mask WEATHER-BITS WEATHER-BITS false).chk v) (first speed (first from (first warm rough))) h) in
    signed-small (has TEMPERATURE v) 400 400 a.temperature (lit≤ tt) (lit≤ tt) (first-0 warm rough (first-1 from (first warm rough) three))

-- ---- reports
pub record ReportSmall (a : Report) : Type 0 where
  pub level : Small a.fix.position.level
  pub over_ground : GroundSmall a.over_ground
  pub air : AirSmall a.air
  pub weather : WeatherSmall a.weather

pub report-small : (a : Report) → report_c.chk a ≡ 0 → ReportSmall (report_c.norm a)
unfolding report_c via dep field only
report-small a h =
    let v = a.elements in
    let g = (when (has GROUND-VECTOR v) no_ground_vector ground_vector_c).chk a.over_ground in
    let w = (when (has AIR-VECTOR v) no_air_vector air_vector_c).chk a.air in
    let s = (when (has WEATHER v) no_weather weather_c).chk a.weather in
    let m = (address ADDRESS v).chk a.address in
    let after-mask = first-1 ((mask REPORT-BITS REPORT-CARRIED false).chk v) (first (fix_c.chk a.fix) (first m (first g (first w s)))) h in
    let after-fix = first-1 m (first g (first w s)) (first-1 (fix_c.chk a.fix) (first m (first g (first w s))) after-mask) in
    let last = first-1 g (first w s) after-fix in
    record {
      level = fix-small a.fix (first-0 (fix_c.chk a.fix) (first m (first g (first w s))) after-mask);
      over_ground = ground-small (has GROUND-VECTOR v) a.over_ground (first-0 g (first w s) after-fix);
      air = air-small (has AIR-VECTOR v) a.air (first-0 w s last);
      weather = weather-small (has WEATHER v) a.weather (first-1 w s last);
    }

pub record EmergencySmall (a : EmergencyReport) : Type 0 where
  pub level : Small a.fix.position.level
  pub over_ground : GroundSmall a.over_ground

pub emergency-small : (a : EmergencyReport) → emergency_report_c.chk a ≡ 0 → EmergencySmall (emergency_report_c.norm a)
unfolding emergency_report_c via dep field only
emergency-small a h =
    let v = a.elements in
    let g = (when (has EMERGENCY-GROUND-VECTOR v) no_ground_vector ground_vector_c).chk a.over_ground in
    let m = (address EMERGENCY-ADDRESS v).chk a.address in
    let after-mask = first-1 ((mask EMERGENCY-BITS EMERGENCY-CARRIED false).chk v) (first (fix_c.chk a.fix) (first m g)) h in
    record {
      level = fix-small a.fix (first-0 (fix_c.chk a.fix) (first m g) after-mask);
      over_ground = ground-small (has EMERGENCY-GROUND-VECTOR v) a.over_ground (first-1 m g (first-1 (fix_c.chk a.fix) (first m g) after-mask));
    }
