-- The message table of 01, the parts of reports: 01's line stands above each definition.
use Rattle.std.specs.Prelude.{ℕ, refl, Bool, true, false}
use Rattle.per.specs.Codec.{Codec}
use Rattle.per.specs.Formats.{dep, pair, iso, when, num, flag, ext, signed, mask, has}
use Rattle.pdu_parts.specs.declared.position.Angle.{Angle}
use Rattle.pdu_parts.specs.declared.position.Position.{Position}
use Rattle.pdu_parts.specs.declared.time.Time.{Time}
use Rattle.pdu_parts.specs.declared.time.Merit.{Merit}
use Rattle.pdu_parts.specs.declared.report.Fix.{Fix}
use Rattle.pdu_parts.specs.declared.report.Report.{Report}
use Rattle.pdu_parts.specs.declared.report.EmergencyReport.{EmergencyReport}
use Rattle.pdu_parts.specs.Elements.{ADDRESS, GROUND-VECTOR, AIR-VECTOR, WEATHER, REPORT-BITS, REPORT-CARRIED, EMERGENCY-ADDRESS, EMERGENCY-GROUND-VECTOR, EMERGENCY-BITS, EMERGENCY-CARRIED}
use Rattle.pdu_parts.specs.Vectors.{ground_vector_c, no_ground_vector, air_vector_c, no_air_vector, weather_c, no_weather}

-- the most degrees of a longitude, or of a latitude
abbrev pub degrees_top : Bool → ℕ
degrees_top true = 180
degrees_top false = 90

-- "latitude (sign 1 bit, degrees 0..90, minutes 0..59, tenth-seconds 0..599), longitude (degrees 0..180, rest alike)"
unfoldable pub angle_c : ℕ → Codec Angle
angle_c top =
    iso (pair flag (pair (num 0 top) (pair (num 0 59) (num 0 599))))
    (λ p. record { minus = p.0; degrees = p.1.0; minutes = p.1.1.0; tenths = p.1.1.1 })
    (λ a. (a.minus, (a.degrees, (a.minutes, a.tenths))))
    (λ p. refl)

-- "Position: latitude, longitude, level. A level of -75 to 10000 is sent as the level plus 75, in 14 bits"
unfoldable pub position_c : Codec Position
position_c =
    iso (pair (angle_c 90) (pair (angle_c 180) (signed 75 10000)))
    (λ p. record { latitude = p.0; longitude = p.1.0; level = p.1.1 })
    (λ a. (a.latitude, (a.longitude, a.level)))
    (λ p. refl)

-- "Time: year 1996..2095, month 1..12, day 1..31, presence bit of seconds, hours 0..23, minutes 0..59, seconds 0..59"
unfoldable pub time_c : Codec Time
time_c =
    iso (pair (num 1996 2095) (pair (num 1 12) (pair (num 1 31)
    (dep flag (λ seconds. pair (num 0 23) (pair (num 0 59) (when seconds 0 (num 0 59))))))))
    (λ p. record {
      year = p.0;
      month = p.1.0;
      day = p.1.1.0;
      has_seconds = p.1.1.1.0;
      hours = p.1.1.1.1.0;
      minutes = p.1.1.1.1.1.0;
      seconds = p.1.1.1.1.1.1;
    })
    (λ a. (a.year, (a.month, (a.day, (a.has_seconds, (a.hours, (a.minutes, a.seconds)))))))
    (λ p. refl)

-- "Merit: accuracy 0..7, two booleans"
unfoldable pub merit_c : Codec Merit
merit_c =
    iso (pair (num 0 7) (pair flag flag))
    (λ p. record { accuracy = p.0; units = p.1.0; avoidance = p.1.1 })
    (λ a. (a.accuracy, (a.units, a.avoidance)))
    (λ p. refl)

-- "position, time, figure of merit"
unfoldable pub fix_c : Codec Fix
fix_c =
    iso (pair position_c (pair time_c merit_c))
    (λ p. record { position = p.0; time = p.1.0; merit = p.1.1 })
    (λ a. (a.position, (a.time, a.merit)))
    (λ p. refl)

-- "the address, 24 bits", where its presence bit of weight w is set
abbrev pub address : ℕ → ℕ → Codec ℕ
address w v = when (has w v) 0 (num 0 16777215)

-- "Report*: 7 presence bits (aircraft address, projected profile, ground vector, air vector, weather, short-term intent, extended profile),
-- position, time, figure of merit, then the address, 24 bits". 02, L1: "Carry ground vector, air vector and weather in reports". The other three aren't carried
unfoldable pub report_c : Codec Report
report_c =
    iso (ext (dep (mask REPORT-BITS REPORT-CARRIED false) (λ v. pair fix_c (pair (address ADDRESS v)
    (pair (when (has GROUND-VECTOR v) no_ground_vector ground_vector_c) (pair (when (has AIR-VECTOR v) no_air_vector air_vector_c) (when (has WEATHER v) no_weather weather_c)))))))
    (λ p. record { elements = p.0; fix = p.1.0; address = p.1.1.0; over_ground = p.1.1.1.0; air = p.1.1.1.1.0; weather = p.1.1.1.1.1 })
    (λ a. (a.elements, (a.fix, (a.address, (a.over_ground, (a.air, a.weather))))))
    (λ p. refl)

-- "Emergency report: no extension bit, 2 presence bits (address, ground vector), the same three, address". 02, L1: "ground vector also in emergency reports"
unfoldable pub emergency_report_c : Codec EmergencyReport
emergency_report_c =
    iso (dep (mask EMERGENCY-BITS EMERGENCY-CARRIED false)
    (λ v. pair fix_c (pair (address EMERGENCY-ADDRESS v) (when (has EMERGENCY-GROUND-VECTOR v) no_ground_vector ground_vector_c))))
    (λ p. record { elements = p.0; fix = p.1.0; address = p.1.1.0; over_ground = p.1.1.1 })
    (λ a. (a.elements, (a.fix, (a.address, a.over_ground))))
    (λ p. refl)
