-- What reads back of a value: everything but what is absent, which reads as 0. Assumes nothing.
use Prim.Native.Nat.{ℕ, ◌+◌}
use mathlib.Core.Path.{◌≡◌, refl}
use mathlib.Core.Bool.{Bool, true, false, cond, not}
use lib.Dec.{eqb}
use lib.IntN.{ℤ, pos, negsuc}
use Rattle.per.specs.Formats.{field, dep, via, only, absent, when, has, num, signed, signed_field}
use Rattle.per.specs.declared.cursor.Signed.{Signed}
use Rattle.pdu_parts.specs.declared.position.Position.{Position}
use Rattle.pdu_parts.specs.declared.time.Time.{Time}
use Rattle.pdu_parts.specs.declared.time.Merit.{Merit}
use Rattle.pdu_parts.specs.declared.report.Fix.{Fix}
use Rattle.pdu_parts.specs.declared.report.Report.{Report}
use Rattle.pdu_parts.specs.declared.report.EmergencyReport.{EmergencyReport}
use Rattle.pdu_parts.specs.declared.vectors.GroundVector.{GroundVector}
use Rattle.pdu_parts.specs.declared.vectors.AirSpeed.{AirSpeed}
use Rattle.pdu_parts.specs.declared.vectors.AirVector.{AirVector}
use Rattle.pdu_parts.specs.declared.vectors.Weather.{Weather}
use Rattle.pdu_parts.specs.Elements.{ADDRESS, GROUND-VECTOR, AIR-VECTOR, WEATHER, EMERGENCY-ADDRESS, EMERGENCY-GROUND-VECTOR, TRACK, GROUND-SPEED, GROUND-RATE, HEADING, AIR-SPEED, AIR-RATE, WIND-SPEED, WIND-DIRECTION, TEMPERATURE, TURBULENCE}
use Rattle.pdu_parts.specs.Vectors.{none, ground_vector_c, no_ground_vector, air_speed_c, no_speed, air_vector_c, no_air_vector, weather_c, no_weather}
use Rattle.pdu_parts.specs.Reports.{angle_c, position_c, time_c, merit_c, fix_c, report_c, emergency_report_c}

-- an optional number
pub when-norm : (b : Bool) (lo hi n : ℕ) → (when b 0 (num lo hi)).norm n ≡ cond b n 0
unfolding when absent field
when-norm true lo hi n = refl
when-norm false lo hi n = refl

pub position-norm : (a : Position) → position_c.norm a ≡ a
unfolding position_c angle_c via dep field
position-norm a = refl

pub merit-norm : (a : Merit) → merit_c.norm a ≡ a
unfolding merit_c via dep field
merit-norm a = refl

-- seconds that are not there read as 0
abbrev pub time_read : Time → Time
time_read a = record {
  year = a.year;
  month = a.month;
  day = a.day;
  has_seconds = a.has_seconds;
  hours = a.hours;
  minutes = a.minutes;
  seconds = cond a.has_seconds a.seconds 0;
}

pub time-norm : (a : Time) → time_c.norm a ≡ time_read a
unfolding time_c via dep field
time-norm a = rw (when-norm a.has_seconds 0 59 a.seconds)

abbrev pub fix_read : Fix → Fix
fix_read a = record { position = a.position; time = time_read a.time; merit = a.merit }

pub fix-norm : (a : Fix) → fix_c.norm a ≡ fix_read a
unfolding fix_c via dep
fix-norm a = rw (position-norm a.position, time-norm a.time, merit-norm a.merit)

-- an optional number with a sign
pub signed-norm : (b : Bool) (k hi : ℕ) (v : Signed) → (when b none (signed k hi)).norm v ≡ cond b v none
unfolding when absent field
signed-norm true k hi v = refl
signed-norm false k hi v = refl

-- parts of a vector that are not there read as 0
abbrev pub ground_read : GroundVector → GroundVector
ground_read a = record {
  elements = a.elements;
  track = cond (has TRACK a.elements) a.track 0;
  speed = cond (has GROUND-SPEED a.elements) a.speed none;
  rate = cond (has GROUND-RATE a.elements) a.rate none;
}

pub ground-vector-norm : (a : GroundVector) → ground_vector_c.norm a ≡ ground_read a
unfolding ground_vector_c via dep only field
ground-vector-norm a =
    let v = a.elements in
    rw (when-norm (has TRACK v) 1 3600 a.track, signed-norm (has GROUND-SPEED v) 50 2200 a.speed, signed-norm (has GROUND-RATE v) 3000 3000 a.rate)

abbrev pub speed_read : AirSpeed → AirSpeed
speed_read a = record { kind = a.kind; mach = cond (not (eqb a.kind 1)) a.mach 0; ias = cond (not (eqb a.kind 0)) a.ias 0 }

speed-norm : (a : AirSpeed) → air_speed_c.norm a ≡ speed_read a
unfolding air_speed_c via dep field
speed-norm a = rw (when-norm (not (eqb a.kind 1)) 500 4000 a.mach, when-norm (not (eqb a.kind 0)) 0 1100 a.ias)

speed-there : (b : Bool) (a : AirSpeed) → (when b no_speed air_speed_c).norm a ≡ cond b (speed_read a) no_speed
unfolding when absent
speed-there true a = speed-norm a
speed-there false a = refl

abbrev pub air_read : AirVector → AirVector
air_read a = record {
  elements = a.elements;
  heading = cond (has HEADING a.elements) a.heading 0;
  speed = cond (has AIR-SPEED a.elements) (speed_read a.speed) no_speed;
  rate = cond (has AIR-RATE a.elements) a.rate none;
}

pub air-vector-norm : (a : AirVector) → air_vector_c.norm a ≡ air_read a
unfolding air_vector_c via dep only field
air-vector-norm a =
    let v = a.elements in
    rw (when-norm (has HEADING v) 1 3600 a.heading, speed-there (has AIR-SPEED v) a.speed, signed-norm (has AIR-RATE v) 3000 3000 a.rate)

abbrev pub weather_read : Weather → Weather
weather_read a = record {
  elements = a.elements;
  speed = cond (has WIND-SPEED a.elements) a.speed 0;
  direction = cond (has WIND-DIRECTION a.elements) a.direction 0;
  temperature = cond (has TEMPERATURE a.elements) a.temperature none;
  turbulence = cond (has TURBULENCE a.elements) a.turbulence 0;
}

pub weather-norm : (a : Weather) → weather_c.norm a ≡ weather_read a
unfolding weather_c via dep only field
weather-norm a =
    let v = a.elements in
    rw (when-norm (has WIND-SPEED v) 0 300 a.speed, when-norm (has WIND-DIRECTION v) 1 360 a.direction, signed-norm (has TEMPERATURE v) 400 400 a.temperature, when-norm (has TURBULENCE v) 0 15 a.turbulence)

-- an element that is not there reads as one with nothing in it
ground-there : (b : Bool) (a : GroundVector) → (when b no_ground_vector ground_vector_c).norm a ≡ cond b (ground_read a) no_ground_vector
unfolding when absent
ground-there true a = ground-vector-norm a
ground-there false a = refl

air-there : (b : Bool) (a : AirVector) → (when b no_air_vector air_vector_c).norm a ≡ cond b (air_read a) no_air_vector
unfolding when absent
air-there true a = air-vector-norm a
air-there false a = refl

weather-there : (b : Bool) (a : Weather) → (when b no_weather weather_c).norm a ≡ cond b (weather_read a) no_weather
unfolding when absent
weather-there true a = weather-norm a
weather-there false a = refl

-- an address that is not there reads as 0
abbrev pub report_read : Report → Report
report_read a = record {
  elements = a.elements;
  fix = fix_read a.fix;
  address = cond (has ADDRESS a.elements) a.address 0;
  over_ground = cond (has GROUND-VECTOR a.elements) (ground_read a.over_ground) no_ground_vector;
  air = cond (has AIR-VECTOR a.elements) (air_read a.air) no_air_vector;
  weather = cond (has WEATHER a.elements) (weather_read a.weather) no_weather;
}

pub report-norm : (a : Report) → report_c.norm a ≡ report_read a
unfolding report_c via dep field only
report-norm a =
    let v = a.elements in
    rw (fix-norm a.fix, when-norm (has ADDRESS v) 0 16777215 a.address, ground-there (has GROUND-VECTOR v) a.over_ground, air-there (has AIR-VECTOR v) a.air, weather-there (has WEATHER v) a.weather)

abbrev pub emergency_read : EmergencyReport → EmergencyReport
emergency_read a = record {
  elements = a.elements;
  fix = fix_read a.fix;
  address = cond (has EMERGENCY-ADDRESS a.elements) a.address 0;
  over_ground = cond (has EMERGENCY-GROUND-VECTOR a.elements) (ground_read a.over_ground) no_ground_vector;
}

pub emergency-norm : (a : EmergencyReport) → emergency_report_c.norm a ≡ emergency_read a
unfolding emergency_report_c via dep field only
emergency-norm a =
    let v = a.elements in
    rw (fix-norm a.fix, when-norm (has EMERGENCY-ADDRESS v) 0 16777215 a.address, ground-there (has EMERGENCY-GROUND-VECTOR v) a.over_ground)

-- ---- "A level of -75 to 10000 is sent as the level plus 75", exact at -75, 0 and 10000, both ways; -76 and 10001 are refused with 5
pub levels : ((signed_field 75 10000).from (record { number = negsuc 74 }) ≡ 0) × ((signed_field 75 10000).from (record { number = pos 0 }) ≡ 75)
    × ((signed_field 75 10000).from (record { number = pos 10000 }) ≡ 10075)
    × ((signed_field 75 10000).to 0 ≡ record { number = negsuc 74 }) × ((signed_field 75 10000).to 75 ≡ record { number = pos 0 })
    × ((signed_field 75 10000).to 10075 ≡ record { number = pos 10000 })
    × ((signed_field 75 10000).chk (record { number = negsuc 75 }) ≡ 5) × ((signed_field 75 10000).chk (record { number = pos 10001 }) ≡ 5)
levels = (refl, refl, refl, refl, refl, refl, refl, refl)

-- ---- L1: "Speeds and vertical rates below zero must read right at both ends of their range", and temperatures; one step beyond is 5 to write
abbrev EndsRight : ℕ → ℕ → ℤ → ℤ → ℤ → ℤ → Type 0
EndsRight k hi low high under over =
    ((signed_field k hi).from (record { number = low }) ≡ 0) × ((signed_field k hi).from (record { number = high }) ≡ k + hi)
    × ((signed_field k hi).to 0 ≡ record { number = low }) × ((signed_field k hi).to (k + hi) ≡ record { number = high })
    × ((signed_field k hi).chk (record { number = under }) ≡ 5) × ((signed_field k hi).chk (record { number = over }) ≡ 5)
    × ((signed_field k hi).judge (k + hi + 1) ≡ 8)

pub signed-ends : EndsRight 50 2200 (negsuc 49) (pos 2200) (negsuc 50) (pos 2201) × EndsRight 3000 3000 (negsuc 2999) (pos 3000) (negsuc 3000) (pos 3001)
    × EndsRight 400 400 (negsuc 399) (pos 400) (negsuc 400) (pos 401)
signed-ends = ((refl, refl, refl, refl, refl, refl, refl), (refl, refl, refl, refl, refl, refl, refl), (refl, refl, refl, refl, refl, refl, refl))
