-- The numbers of states, of the one timer and of events, under the names of 000 and 002: 000:87 is line 87 of 000.
use Rattle.std.specs.Prelude.{ℕ}

-- states, in the order of 000's tables: DC has IDLE, PENDING and ACTIVE (000:63); EC and PC have IDLE, PENDING, ACTIVE and ACTIVE-PENDING (000:179, 000:381); EM has IDLE, ACTIVE,
-- MODIFY and CANCEL (000:501); LI has IDLE, START and ACTIVE (000:607). IDLE is 0, link's
abbrev pub DC-PENDING : ℕ
DC-PENDING = 1

abbrev pub DC-ACTIVE : ℕ
DC-ACTIVE = 2

abbrev pub PENDING : ℕ
PENDING = 1

abbrev pub ACTIVE : ℕ
ACTIVE = 2

abbrev pub ACTIVE-PENDING : ℕ
ACTIVE-PENDING = 3

abbrev pub EM-ACTIVE : ℕ
EM-ACTIVE = 1

abbrev pub MODIFY : ℕ
MODIFY = 2

abbrev pub CANCEL : ℕ
CANCEL = 3

abbrev pub LI-IDLE : ℕ
LI-IDLE = 0

abbrev pub LI-START : ℕ
LI-START = 1

abbrev pub LI-ACTIVE : ℕ
LI-ACTIVE = 2

-- the one timer, t-EM-3
abbrev pub EM3 : ℕ
EM3 = 0

-- events of a module: the user's requests and responses are 0 to 3, in the order of 000's rows; data from the ground follows from 4 on.
-- DC: negative ack, noncompliance, report with ack, plain report; contract
abbrev pub dc_negative : ℕ
dc_negative = 0

abbrev pub dc_noncompliance : ℕ
dc_noncompliance = 1

abbrev pub dc_report_ack : ℕ
dc_report_ack = 2

abbrev pub dc_report : ℕ
dc_report = 3

abbrev pub dc_contract : ℕ
dc_contract = 4

-- EC and PC: positive ack or noncompliance, negative ack, report with ack, plain report; contract, cancel
abbrev pub agree : ℕ
agree = 0

abbrev pub negative : ℕ
negative = 1

abbrev pub report_ack : ℕ
report_ack = 2

abbrev pub report : ℕ
report = 3

abbrev pub contract : ℕ
contract = 4

abbrev pub cancel : ℕ
cancel = 5

-- EM: plain report, report with ack, cancel-emergency, negative ack of a modify; cancel-emergency-ack, modify
abbrev pub em_report : ℕ
em_report = 0

abbrev pub em_report_ack : ℕ
em_report_ack = 1

abbrev pub em_cancel : ℕ
em_cancel = 2

abbrev pub em_refuse : ℕ
em_refuse = 3

abbrev pub em_ack : ℕ
em_ack = 4

abbrev pub em_modify : ℕ
em_modify = 5
