-- Where each number of a PDU stands: A of an aircraft PDU, G of a ground PDU. include/adsc.h says what each is.
use Rattle.std.specs.Prelude.{ℕ}

abbrev pub A-KIND : ℕ
A-KIND = 0

abbrev pub A-WHAT : ℕ
A-WHAT = 1

abbrev pub A-DETAIL : ℕ
A-DETAIL = 2

abbrev pub A-COUNT : ℕ
A-COUNT = 3

abbrev pub A-ELEMENTS : ℕ
A-ELEMENTS = 4

abbrev pub A-SOUTH : ℕ
A-SOUTH = 5

abbrev pub A-LATITUDE : ℕ
A-LATITUDE = 6

abbrev pub A-LATITUDE-MINUTES : ℕ
A-LATITUDE-MINUTES = 7

abbrev pub A-LATITUDE-TENTHS : ℕ
A-LATITUDE-TENTHS = 8

abbrev pub A-WEST : ℕ
A-WEST = 9

abbrev pub A-LONGITUDE : ℕ
A-LONGITUDE = 10

abbrev pub A-LONGITUDE-MINUTES : ℕ
A-LONGITUDE-MINUTES = 11

abbrev pub A-LONGITUDE-TENTHS : ℕ
A-LONGITUDE-TENTHS = 12

abbrev pub A-LEVEL : ℕ
A-LEVEL = 13

abbrev pub A-YEAR : ℕ
A-YEAR = 14

abbrev pub A-MONTH : ℕ
A-MONTH = 15

abbrev pub A-DAY : ℕ
A-DAY = 16

abbrev pub A-HAS-SECONDS : ℕ
A-HAS-SECONDS = 17

abbrev pub A-HOURS : ℕ
A-HOURS = 18

abbrev pub A-MINUTES : ℕ
A-MINUTES = 19

abbrev pub A-SECONDS : ℕ
A-SECONDS = 20

abbrev pub A-ACCURACY : ℕ
A-ACCURACY = 21

abbrev pub A-UNITS : ℕ
A-UNITS = 22

abbrev pub A-AVOIDANCE : ℕ
A-AVOIDANCE = 23

abbrev pub A-ADDRESS : ℕ
A-ADDRESS = 24

abbrev pub A-GROUND-PARTS : ℕ
A-GROUND-PARTS = 25

abbrev pub A-TRACK : ℕ
A-TRACK = 26

abbrev pub A-GROUND-SPEED : ℕ
A-GROUND-SPEED = 27

abbrev pub A-GROUND-RATE : ℕ
A-GROUND-RATE = 28

abbrev pub A-AIR-PARTS : ℕ
A-AIR-PARTS = 29

abbrev pub A-HEADING : ℕ
A-HEADING = 30

abbrev pub A-AIR-SPEED : ℕ
A-AIR-SPEED = 31

abbrev pub A-MACH : ℕ
A-MACH = 32

abbrev pub A-IAS : ℕ
A-IAS = 33

abbrev pub A-AIR-RATE : ℕ
A-AIR-RATE = 34

abbrev pub A-WEATHER-PARTS : ℕ
A-WEATHER-PARTS = 35

abbrev pub A-WIND-SPEED : ℕ
A-WIND-SPEED = 36

abbrev pub A-WIND-DIRECTION : ℕ
A-WIND-DIRECTION = 37

abbrev pub A-TEMPERATURE : ℕ
A-TEMPERATURE = 38

abbrev pub A-TURBULENCE : ℕ
A-TURBULENCE = 39

-- how many numbers an aircraft PDU has
abbrev pub A-NUMBERS : ℕ
A-NUMBERS = 40

abbrev pub G-KIND : ℕ
G-KIND = 0

abbrev pub G-WHAT : ℕ
G-WHAT = 1

abbrev pub G-SCALE : ℕ
G-SCALE = 2

abbrev pub G-INTERVAL : ℕ
G-INTERVAL = 3

abbrev pub G-ADDRESS : ℕ
G-ADDRESS = 4

abbrev pub G-PROFILE : ℕ
G-PROFILE = 5

abbrev pub G-GROUND-VECTOR : ℕ
G-GROUND-VECTOR = 6

abbrev pub G-AIR-VECTOR : ℕ
G-AIR-VECTOR = 7

abbrev pub G-WEATHER : ℕ
G-WEATHER = 8

abbrev pub G-LATERAL : ℕ
G-LATERAL = 9

abbrev pub G-RATE : ℕ
G-RATE = 10

abbrev pub G-CEILING : ℕ
G-CEILING = 11

abbrev pub G-FLOOR : ℕ
G-FLOOR = 12

abbrev pub G-AIR-SPEED : ℕ
G-AIR-SPEED = 13

abbrev pub G-AIR-SPEED-CHANGE : ℕ
G-AIR-SPEED-CHANGE = 14

abbrev pub G-GROUND-SPEED : ℕ
G-GROUND-SPEED = 15

abbrev pub G-HEADING : ℕ
G-HEADING = 16

abbrev pub G-EXTENDED-PROFILE : ℕ
G-EXTENDED-PROFILE = 17

abbrev pub G-EXTENDED-PROFILE-COUNT : ℕ
G-EXTENDED-PROFILE-COUNT = 18

abbrev pub G-TRACK : ℕ
G-TRACK = 19

abbrev pub G-LEVEL : ℕ
G-LEVEL = 20

-- how many numbers a ground PDU has
abbrev pub G-NUMBERS : ℕ
G-NUMBERS = 21
