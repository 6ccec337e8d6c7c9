-- The presence bits of an event contract by name, the first that is sent as the highest (002, 3880). All are carried.
use Rattle.std.specs.Prelude.{ℕ}

abbrev pub LATERAL-CHANGE : ℕ
LATERAL-CHANGE = 1024

abbrev pub RATE-CHANGE : ℕ
RATE-CHANGE = 512

abbrev pub LEVEL-RANGE : ℕ
LEVEL-RANGE = 256

abbrev pub WAYPOINT-CHANGE : ℕ
WAYPOINT-CHANGE = 128

abbrev pub AIR-SPEED-CHANGE : ℕ
AIR-SPEED-CHANGE = 64

abbrev pub GROUND-SPEED-CHANGE : ℕ
GROUND-SPEED-CHANGE = 32

abbrev pub HEADING-CHANGE : ℕ
HEADING-CHANGE = 16

abbrev pub PROFILE-CHANGE : ℕ
PROFILE-CHANGE = 8

abbrev pub MERIT-CHANGE : ℕ
MERIT-CHANGE = 4

abbrev pub TRACK-CHANGE : ℕ
TRACK-CHANGE = 2

abbrev pub LEVEL-CHANGE : ℕ
LEVEL-CHANGE = 1

abbrev pub EVENT-BITS : ℕ
EVENT-BITS = 2047
