-- What the machinery counts, ten timers and five modules; the entries of an action list; the numbers of events.
use Rattle.std.specs.Prelude.{ℕ, ◌+◌, ◌*◌}

abbrev pub timers : ℕ
timers = 10

-- the number that stands for none of them
abbrev pub no_timer : ℕ
no_timer = timers

-- modules, in the order in which their states stand
abbrev pub DC : ℕ
DC = 0

abbrev pub EC : ℕ
EC = 1

abbrev pub PC : ℕ
PC = 2

abbrev pub EM : ℕ
EM = 3

abbrev pub LI : ℕ
LI = 4

-- the state in which every module begins and ends
abbrev pub IDLE : ℕ
IDLE = 0

-- entries of an action list. What goes to the dialogue service is 1 to 4; 1 and 3 have their names on each side. 5 is an indication
abbrev pub DATA-REQUEST : ℕ
DATA-REQUEST = 2

abbrev pub ABORT-REQUEST : ℕ
ABORT-REQUEST = 4

abbrev pub IND : ℕ
IND = 5

-- an abort is shown, with its reason; the peer user's
abbrev pub ABORT-IND : ℕ
ABORT-IND = 6

abbrev pub PEER-ABORT-IND : ℕ
PEER-ABORT-IND = 7

-- a stop and a start of a timer have its number added
abbrev pub STOP : ℕ
STOP = 16

abbrev pub START : ℕ
START = 32

-- events come in groups, one for each module
abbrev pub GROUP : ℕ
GROUP = 16

-- an event of a module
abbrev pub of : ℕ → ℕ → ℕ
of who kind = GROUP * who + kind

-- from 64 on an event is of no module: a request that none has, data that none lists
abbrev pub no_request : ℕ
no_request = of 4 0

abbrev pub no_data : ℕ
no_data = of 4 4

-- what comes of an event: a move that goes, a request that is refused, data that aborts
abbrev pub GOES : ℕ
GOES = 0

abbrev pub REFUSES : ℕ
REFUSES = 1

abbrev pub ABORTS : ℕ
ABORTS = 3
