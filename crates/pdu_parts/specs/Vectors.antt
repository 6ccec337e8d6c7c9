-- The message table, the elements of a report that say where the aircraft is heading and what the air is like: 02's line for L1 with 002's module.
use Rattle.std.specs.Prelude.{refl, false, not, ℕ, eqb, pos}
use Rattle.per.specs.Codec.{Codec}
use Rattle.per.specs.Formats.{dep, pair, iso, when, num, signed, mask, has, index}
use Rattle.per.specs.declared.cursor.Signed.{Signed}
use Rattle.pdu_parts.specs.declared.vectors.GroundVector.{GroundVector}
use Rattle.pdu_parts.specs.declared.vectors.AirSpeed.{AirSpeed}
use Rattle.pdu_parts.specs.declared.vectors.AirVector.{AirVector}
use Rattle.pdu_parts.specs.declared.vectors.Weather.{Weather}
use Rattle.pdu_parts.specs.Elements.{TRACK, GROUND-SPEED, GROUND-RATE, HEADING, AIR-SPEED, AIR-RATE, VECTOR-BITS, WIND-SPEED, WIND-DIRECTION, TEMPERATURE, TURBULENCE, WEATHER-BITS}

-- "An absent field reads as 0 and is no part of the value"
abbrev pub none : Signed
none = record { number = pos 0 }

-- a number of lo..hi where its presence bit of weight w is set; and one of -below..top
abbrev pub num_at : ℕ → ℕ → ℕ → ℕ → Codec ℕ
num_at w v lo hi = when (has w v) 0 (num lo hi)

abbrev pub signed_at : ℕ → ℕ → ℕ → ℕ → Codec Signed
signed_at w v below top = when (has w v) none (signed below top)

-- "VerticalRateChange", -3000..3000 tens of feet a minute
abbrev pub rate_at : ℕ → ℕ → Codec Signed
rate_at w v = signed_at w v 3000 3000

-- ground vector: "3 presence bits: track 1..3600, ground speed -50..2200, vertical rate -3000..3000"
unfoldable pub ground_vector_c : Codec GroundVector
ground_vector_c =
    iso (dep (mask VECTOR-BITS VECTOR-BITS false) (λ v. pair (num_at TRACK v 1 3600) (pair (signed_at GROUND-SPEED v 50 2200) (rate_at GROUND-RATE v))))
    (λ p. record { elements = p.0; track = p.1.0; speed = p.1.1.0; rate = p.1.1.1 })
    (λ a. (a.elements, (a.track, (a.speed, a.rate))))
    (λ p. refl)

-- "air speed by a 2-bit index: Mach 500..4000, IAS 0..1100, or both; index 3 is 8"
unfoldable pub air_speed_c : Codec AirSpeed
air_speed_c =
    iso (dep (index 2) (λ kind. pair (when (not (eqb kind 1)) 0 (num 500 4000)) (when (not (eqb kind 0)) 0 (num 0 1100))))
    (λ p. record { kind = p.0; mach = p.1.0; ias = p.1.1 })
    (λ a. (a.kind, (a.mach, a.ias)))
    (λ p. refl)

abbrev pub no_speed : AirSpeed
no_speed = record { kind = 0; mach = 0; ias = 0 }

-- air vector: "heading 1..3600; air speed ..; vertical rate"
unfoldable pub air_vector_c : Codec AirVector
air_vector_c =
    iso (dep (mask VECTOR-BITS VECTOR-BITS false) (λ v. pair (num_at HEADING v 1 3600) (pair (when (has AIR-SPEED v) no_speed air_speed_c) (rate_at AIR-RATE v))))
    (λ p. record { elements = p.0; heading = p.1.0; speed = p.1.1.0; rate = p.1.1.1 })
    (λ a. (a.elements, (a.heading, (a.speed, a.rate))))
    (λ p. refl)

-- weather: "4 presence bits: wind speed 0..300, wind direction 1..360, temperature -400..400, turbulence 0..15"
unfoldable pub weather_c : Codec Weather
weather_c =
    iso (dep (mask WEATHER-BITS WEATHER-BITS false)
    (λ v. pair (num_at WIND-SPEED v 0 300) (pair (num_at WIND-DIRECTION v 1 360) (pair (signed_at TEMPERATURE v 400 400) (num_at TURBULENCE v 0 15)))))
    (λ p. record { elements = p.0; speed = p.1.0; direction = p.1.1.0; temperature = p.1.1.1.0; turbulence = p.1.1.1.1 })
    (λ a. (a.elements, (a.speed, (a.direction, (a.temperature, a.turbulence)))))
    (λ p. refl)

-- what an element that is absent reads as
abbrev pub no_ground_vector : GroundVector
no_ground_vector = record { elements = 0; track = 0; speed = none; rate = none }

abbrev pub no_air_vector : AirVector
no_air_vector = record { elements = 0; heading = 0; speed = no_speed; rate = none }

abbrev pub no_weather : Weather
no_weather = record { elements = 0; speed = 0; direction = 0; temperature = none; turbulence = 0 }
