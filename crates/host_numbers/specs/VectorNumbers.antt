-- Ground vector, air vector and weather as numbers behind those of a report: 25 to 28 presence bits, track, ground speed, vertical rate; 29 to 34 presence bits, heading,
-- which air speed, Mach, IAS, vertical rate; 35 to 39 presence bits, wind speed, wind direction, temperature, turbulence.
use Rattle.std.specs.Prelude.{List, [], ◌∷◌, ℕ, get_or}
use Rattle.pdu_parts.specs.declared.vectors.GroundVector.{GroundVector}
use Rattle.pdu_parts.specs.declared.vectors.AirVector.{AirVector}
use Rattle.pdu_parts.specs.declared.vectors.Weather.{Weather}
use Rattle.host_numbers.specs.Numbers.{twos, signed_of}
use Rattle.host_numbers.specs.Places.{A-GROUND-PARTS, A-TRACK, A-GROUND-SPEED, A-GROUND-RATE, A-AIR-PARTS, A-HEADING, A-AIR-SPEED, A-MACH, A-IAS, A-AIR-RATE, A-WEATHER-PARTS, A-WIND-SPEED, A-WIND-DIRECTION, A-TEMPERATURE, A-TURBULENCE}

abbrev pub flat_ground_vector : GroundVector → List ℕ
flat_ground_vector a = a.elements ∷ a.track ∷ twos a.speed.number ∷ twos a.rate.number ∷ []

abbrev pub flat_air_vector : AirVector → List ℕ
flat_air_vector a = a.elements ∷ a.heading ∷ a.speed.kind ∷ a.speed.mach ∷ a.speed.ias ∷ twos a.rate.number ∷ []

abbrev pub flat_weather : Weather → List ℕ
flat_weather a = a.elements ∷ a.speed ∷ a.direction ∷ twos a.temperature.number ∷ a.turbulence ∷ []

-- and back. Numbers that are not there are 0
unfoldable pub ground_vector_at : List ℕ → GroundVector
ground_vector_at f =
    record { elements = get_or f A-GROUND-PARTS 0; track = get_or f A-TRACK 0; speed = signed_of (get_or f A-GROUND-SPEED 0); rate = signed_of (get_or f A-GROUND-RATE 0) }

unfoldable pub air_vector_at : List ℕ → AirVector
air_vector_at f =
    record {
      elements = get_or f A-AIR-PARTS 0;
      heading = get_or f A-HEADING 0;
      speed = record { kind = get_or f A-AIR-SPEED 0; mach = get_or f A-MACH 0; ias = get_or f A-IAS 0 };
      rate = signed_of (get_or f A-AIR-RATE 0);
    }

unfoldable pub weather_at : List ℕ → Weather
weather_at f =
    record {
      elements = get_or f A-WEATHER-PARTS 0;
      speed = get_or f A-WIND-SPEED 0;
      direction = get_or f A-WIND-DIRECTION 0;
      temperature = signed_of (get_or f A-TEMPERATURE 0);
      turbulence = get_or f A-TURBULENCE 0;
    }
