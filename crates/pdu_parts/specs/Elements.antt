-- Presence bits by name, the first that is sent as the highest; which of them are carried.
use Rattle.std.specs.Prelude.{ℕ, ◌+◌}

-- a report: "7 presence bits (aircraft address, projected profile, ground vector, air vector, weather, short-term intent, extended profile)"
abbrev pub ADDRESS : ℕ
ADDRESS = 64

abbrev pub PROFILE : ℕ
PROFILE = 32

abbrev pub GROUND-VECTOR : ℕ
GROUND-VECTOR = 16

abbrev pub AIR-VECTOR : ℕ
AIR-VECTOR = 8

abbrev pub WEATHER : ℕ
WEATHER = 4

abbrev pub REPORT-BITS : ℕ
REPORT-BITS = 127

abbrev pub REPORT-CARRIED : ℕ
REPORT-CARRIED = ADDRESS + GROUND-VECTOR + AIR-VECTOR + WEATHER

-- an emergency report: "2 presence bits (address, ground vector)"
abbrev pub EMERGENCY-ADDRESS : ℕ
EMERGENCY-ADDRESS = 2

abbrev pub EMERGENCY-GROUND-VECTOR : ℕ
EMERGENCY-GROUND-VECTOR = 1

abbrev pub EMERGENCY-BITS : ℕ
EMERGENCY-BITS = 3

abbrev pub EMERGENCY-CARRIED : ℕ
EMERGENCY-CARRIED = EMERGENCY-ADDRESS + EMERGENCY-GROUND-VECTOR

-- a ground vector (002, 4055)
abbrev pub TRACK : ℕ
TRACK = 4

abbrev pub GROUND-SPEED : ℕ
GROUND-SPEED = 2

abbrev pub GROUND-RATE : ℕ
GROUND-RATE = 1

-- an air vector (002, 3989)
abbrev pub HEADING : ℕ
HEADING = 4

abbrev pub AIR-SPEED : ℕ
AIR-SPEED = 2

abbrev pub AIR-RATE : ℕ
AIR-RATE = 1

abbrev pub VECTOR-BITS : ℕ
VECTOR-BITS = 7

-- weather (002, 4109)
abbrev pub WIND-SPEED : ℕ
WIND-SPEED = 8

abbrev pub WIND-DIRECTION : ℕ
WIND-DIRECTION = 4

abbrev pub TEMPERATURE : ℕ
TEMPERATURE = 2

abbrev pub TURBULENCE : ℕ
TURBULENCE = 1

abbrev pub WEATHER-BITS : ℕ
WEATHER-BITS = 15

-- a demand contract: "as in the report; the first five NULL, the last two not carried"
abbrev pub DEMAND-CARRIED : ℕ
DEMAND-CARRIED = ADDRESS + PROFILE + GROUND-VECTOR + AIR-VECTOR + WEATHER

-- a periodic contract: "8 presence bits (interval ..; five moduli .. in the report's order; two not carried)"
abbrev pub INTERVAL : ℕ
INTERVAL = 128

abbrev pub PERIODIC-BITS : ℕ
PERIODIC-BITS = 255

abbrev pub PERIODIC-CARRIED : ℕ
PERIODIC-CARRIED = INTERVAL + DEMAND-CARRIED
