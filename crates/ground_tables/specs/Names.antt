-- The numbers of states, timers and events, under the names of 01.
use Rattle.std.specs.Prelude.{ℕ}

-- states: DC has IDLE, PENDING and ACTIVE; EC and PC have IDLE, START-PENDING, PENDING, ACTIVE and CANCEL; EM has IDLE, ACTIVE and MODIFY; LI has IDLE, START, ACTIVE and END.
-- They are numbered so that the states of each timer stand together; IDLE is 0, link's
abbrev pub DC-PENDING : ℕ
DC-PENDING = 1

abbrev pub DC-ACTIVE : ℕ
DC-ACTIVE = 2

abbrev pub START-PENDING : ℕ
START-PENDING = 1

abbrev pub PENDING : ℕ
PENDING = 2

abbrev pub ACTIVE : ℕ
ACTIVE = 3

abbrev pub CANCEL : ℕ
CANCEL = 4

abbrev pub EM-ACTIVE : ℕ
EM-ACTIVE = 1

abbrev pub MODIFY : ℕ
MODIFY = 2

abbrev pub LI-IDLE : ℕ
LI-IDLE = 0

abbrev pub LI-START : ℕ
LI-START = 1

abbrev pub LI-ACTIVE : ℕ
LI-ACTIVE = 2

abbrev pub LI-END : ℕ
LI-END = 3

-- timers, in watch order
abbrev pub DC1 : ℕ
DC1 = 0

abbrev pub DC2 : ℕ
DC2 = 1

abbrev pub EC1 : ℕ
EC1 = 2

abbrev pub EC2 : ℕ
EC2 = 3

abbrev pub PC1 : ℕ
PC1 = 4

abbrev pub PC2 : ℕ
PC2 = 5

abbrev pub PC3 : ℕ
PC3 = 6

abbrev pub EM1 : ℕ
EM1 = 7

abbrev pub EM2 : ℕ
EM2 = 8

abbrev pub LI1 : ℕ
LI1 = 9

-- events of a module, requests below 4 and downlink data from 4 on. DC: request; report with ack, plain report, negative ack, noncompliance
abbrev pub request : ℕ
request = 0

abbrev pub dc_report_ack : ℕ
dc_report_ack = 4

abbrev pub dc_report : ℕ
dc_report = 5

abbrev pub dc_negative : ℕ
dc_negative = 6

abbrev pub dc_noncompliance : ℕ
dc_noncompliance = 7

-- EC and PC (7 is left out, so that no two that are done alike stand side by side): request, cancel; report with ack, plain report, positive ack, noncompliance, positive ack of the cancel, negative ack
abbrev pub cancel : ℕ
cancel = 1

abbrev pub report_ack : ℕ
report_ack = 4

abbrev pub report : ℕ
report = 5

abbrev pub positive : ℕ
positive = 6

abbrev pub noncompliance : ℕ
noncompliance = 8

abbrev pub cancelled : ℕ
cancelled = 9

abbrev pub negative : ℕ
negative = 10

-- EM (6 and 8 are left out for the same reason): modify; plain report, report with ack, positive ack, cancel-emergency
abbrev pub modify : ℕ
modify = 0

abbrev pub em_report : ℕ
em_report = 4

abbrev pub em_report_ack : ℕ
em_report_ack = 5

abbrev pub em_positive : ℕ
em_positive = 7

abbrev pub em_cancel : ℕ
em_cancel = 9
