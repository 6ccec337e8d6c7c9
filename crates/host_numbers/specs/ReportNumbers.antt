-- A report as 40 numbers. 0 to 3 stand before it; 4 presence bits, 5 to 8 latitude (minus, degrees, minutes, tenth-seconds), 9 to 12 longitude alike,
-- 13 level, 14 to 20 year, month, day, whether there are seconds, hours, minutes, seconds, 21 to 23 merit (accuracy, two booleans), 24 address; 25 to 39 as `VectorNumbers` has them.
use Rattle.std.specs.Prelude.{Bool, cond, List, [], ◌∷◌, ◌++◌, ℕ, ltb, get_or}
use Rattle.pdu_parts.specs.declared.report.Fix.{Fix}
use Rattle.pdu_parts.specs.declared.report.Report.{Report}
use Rattle.host_numbers.specs.Numbers.{truth, number_by, bit_of, twos, signed_of}
use Rattle.host_numbers.specs.VectorNumbers.{flat_ground_vector, flat_air_vector, flat_weather, ground_vector_at, air_vector_at, weather_at}
use Rattle.host_numbers.specs.Places.{A-WHAT, A-ELEMENTS, A-SOUTH, A-LATITUDE, A-LATITUDE-MINUTES, A-LATITUDE-TENTHS, A-WEST, A-LONGITUDE, A-LONGITUDE-MINUTES, A-LONGITUDE-TENTHS, A-LEVEL, A-YEAR, A-MONTH, A-DAY, A-HAS-SECONDS, A-HOURS, A-MINUTES, A-SECONDS, A-ACCURACY, A-UNITS, A-AVOIDANCE, A-ADDRESS}

-- kind, whether a positive ack goes with the report, event type, no list, and the report
unfoldable pub fix_numbers : ℕ → Bool → ℕ → ℕ → Fix → ℕ → List ℕ
fix_numbers kind ack event elements x address =
    let la = x.position.latitude in
    let lo = x.position.longitude in
    let t = x.time in
    let m = x.merit in
    kind ∷ bit_of ack ∷ event ∷ 0 ∷ elements ∷ bit_of la.minus ∷ la.degrees ∷ la.minutes ∷ la.tenths ∷ bit_of lo.minus ∷ lo.degrees ∷ lo.minutes ∷ lo.tenths ∷ twos x.position.level.number ∷ t.year ∷ t.month ∷ t.day ∷ bit_of t.has_seconds ∷ t.hours ∷ t.minutes ∷ t.seconds ∷ m.accuracy ∷ bit_of m.units ∷ bit_of m.avoidance ∷ address ∷ []

-- with the vectors and the weather
unfoldable pub flat_report : ℕ → Bool → ℕ → Report → List ℕ
flat_report kind ack event r =
    fix_numbers kind ack event r.elements r.fix r.address ++ (flat_ground_vector r.over_ground ++ (flat_air_vector r.air ++ flat_weather r.weather))

-- and back. Numbers that are not there are 0. Two truth values stand beside the accuracy
unfoldable pub accuracy_at : List ℕ → ℕ
accuracy_at f = cond (ltb (get_or f A-UNITS 0) 2) (number_by f A-AVOIDANCE A-ACCURACY) 4294967295

-- position, time and figure of merit
unfoldable pub fix_at : List ℕ → Fix
fix_at f =
    record {
      position =
          record {
            latitude = record { minus = truth (get_or f A-SOUTH 0); degrees = number_by f A-SOUTH A-LATITUDE; minutes = get_or f A-LATITUDE-MINUTES 0; tenths = get_or f A-LATITUDE-TENTHS 0 };
            longitude = record { minus = truth (get_or f A-WEST 0); degrees = number_by f A-WEST A-LONGITUDE; minutes = get_or f A-LONGITUDE-MINUTES 0; tenths = get_or f A-LONGITUDE-TENTHS 0 };
            level = signed_of (get_or f A-LEVEL 0);
          };
      time =
          record {
            year = get_or f A-YEAR 0;
            month = get_or f A-MONTH 0;
            day = get_or f A-DAY 0;
            has_seconds = truth (get_or f A-HAS-SECONDS 0);
            hours = number_by f A-HAS-SECONDS A-HOURS;
            minutes = get_or f A-MINUTES 0;
            seconds = get_or f A-SECONDS 0;
          };
      merit = record { accuracy = accuracy_at f; units = truth (get_or f A-UNITS 0); avoidance = truth (get_or f A-AVOIDANCE 0) };
    }

-- a report's presence bits, these three, the address, the vectors and the weather
unfoldable pub report_at : List ℕ → Report
report_at f =
    record {
      elements = number_by f A-WHAT A-ELEMENTS;
      fix = fix_at f;
      address = get_or f A-ADDRESS 0;
      over_ground = ground_vector_at f;
      air = air_vector_at f;
      weather = weather_at f;
    }
