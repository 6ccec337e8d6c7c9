-- The ground tables of 01, a row for each clause: at a state, on an event, what is done.
use Rattle.std.specs.Prelude.{List, [], ◌∷◌, ℕ, get_or, eqb}
use Rattle.link.specs.Tests.{pick}
use Rattle.link.specs.Names.{no_timer, DC, EC, PC, EM, LI, IDLE}
use Rattle.link.specs.Moves.{Row, row, look, to, stop, ind, send, start, unlisted}
use Rattle.link.specs.declared.moves.Move.{Move}
use Rattle.ground_tables.specs.Names.{DC-PENDING, DC-ACTIVE, START-PENDING, PENDING, ACTIVE, CANCEL, EM-ACTIVE, MODIFY, DC1, DC2, EC1, EC2, PC1, PC2, PC3, EM1, EM2, LI1, LI-IDLE, LI-END, request, dc_report_ack, dc_report, dc_negative, dc_noncompliance, cancel, report_ack, report, positive, noncompliance, cancelled, negative, modify, em_report, em_report_ack, em_positive, em_cancel}

-- "IDLE: request, send, start DC1, PENDING. PENDING: report with ack, stop DC1, report ind, IDLE; negative ack (demand), stop, confirm, IDLE; demand
-- noncompliance, stop, confirm, start DC2, ACTIVE. ACTIVE: report without ack, stop DC2, ind, IDLE."
unfoldable pub dc_rows : List Row
dc_rows =
    row IDLE request (send (start DC1 (to DC DC-PENDING)))
    ∷ row DC-PENDING dc_report_ack (stop DC1 (ind (to DC IDLE)))
    ∷ row DC-PENDING dc_negative (stop DC1 (ind (to DC IDLE)))
    ∷ row DC-PENDING dc_noncompliance (stop DC1 (ind (start DC2 (to DC DC-ACTIVE))))
    ∷ row DC-ACTIVE dc_report (stop DC2 (ind (to DC IDLE)))
    ∷ []

unfoldable pub dc_move : ℕ → ℕ → Move
dc_move s e = look dc_rows s e (unlisted e)

-- EC and PC: t1 is the timer of a request, tc that of a cancel, w the one that runs in ACTIVE: none for EC, PC2 for PC without an emergency, else none.
-- "IDLE: request, send, start EC1, START-PENDING. ACTIVE: request, send, start EC1, PENDING; cancel, send, start EC2, CANCEL; plain report, ind.
-- START-PENDING and PENDING: report with ack (ind), positive ack (event) or event noncompliance (confirm), each after stop EC1, to ACTIVE; negative
-- ack (event), stop, confirm, to IDLE and ACTIVE respectively. PENDING and CANCEL: plain report, ind. CANCEL: positive ack (cancel event), stop EC2,
-- confirm, IDLE." "As EC with PC1 and, for cancel, PC3. Besides: on entering ACTIVE without an emergency, start PC2 last; a plain report in ACTIVE without an emergency stops PC2, gives ind, starts
-- PC2; a request or cancel in ACTIVE first stops PC2 if it runs."
unfoldable pub contract_rows : ℕ → ℕ → ℕ → ℕ → List Row
contract_rows who t1 tc w =
    row IDLE request (send (start t1 (to who START-PENDING)))
    ∷ row ACTIVE request (stop w (send (start t1 (to who PENDING))))
    ∷ row ACTIVE cancel (stop w (send (start tc (to who CANCEL))))
    ∷ row ACTIVE report (stop w (ind (start w (to who ACTIVE))))
    ∷ row START-PENDING report_ack (stop t1 (ind (start w (to who ACTIVE))))
    ∷ row START-PENDING positive (stop t1 (ind (start w (to who ACTIVE))))
    ∷ row START-PENDING noncompliance (stop t1 (ind (start w (to who ACTIVE))))
    ∷ row START-PENDING negative (stop t1 (ind (to who IDLE)))
    ∷ row PENDING report_ack (stop t1 (ind (start w (to who ACTIVE))))
    ∷ row PENDING positive (stop t1 (ind (start w (to who ACTIVE))))
    ∷ row PENDING noncompliance (stop t1 (ind (start w (to who ACTIVE))))
    ∷ row PENDING negative (stop t1 (ind (start w (to who ACTIVE))))
    ∷ row PENDING report (ind (to who PENDING))
    ∷ row CANCEL report (ind (to who CANCEL))
    ∷ row CANCEL cancelled (stop tc (ind (to who IDLE)))
    ∷ []

unfoldable pub contract_move : ℕ → ℕ → ℕ → ℕ → ℕ → ℕ → Move
contract_move who t1 tc w s e = look (contract_rows who t1 tc w) s e (unlisted e)

-- EM: p is PC2 where PC is ACTIVE, else none. "IDLE: plain emergency report, stop PC2 if it runs, ind, start EM1, ACTIVE. ACTIVE: modify, stop EM1, send,
-- start EM2, MODIFY; plain report, stop EM1, ind, start EM1. MODIFY: plain report, ind; report with ack (ind) or positive ack (modify, confirm), stop
-- EM2, that, start EM1, ACTIVE. ACTIVE, MODIFY: cancel-emergency, stop the timer, ind, send ack, start PC2 if PC is ACTIVE, IDLE."
unfoldable pub em_rows : ℕ → List Row
em_rows p =
    row IDLE em_report (stop p (ind (start EM1 (to EM EM-ACTIVE))))
    ∷ row EM-ACTIVE modify (stop EM1 (send (start EM2 (to EM MODIFY))))
    ∷ row EM-ACTIVE em_report (stop EM1 (ind (start EM1 (to EM EM-ACTIVE))))
    ∷ row MODIFY em_report (ind (to EM MODIFY))
    ∷ row MODIFY em_report_ack (stop EM2 (ind (start EM1 (to EM EM-ACTIVE))))
    ∷ row MODIFY em_positive (stop EM2 (ind (start EM1 (to EM EM-ACTIVE))))
    ∷ row EM-ACTIVE em_cancel (stop EM1 (ind (send (start p (to EM IDLE)))))
    ∷ row MODIFY em_cancel (stop EM2 (ind (send (start p (to EM IDLE)))))
    ∷ []

unfoldable pub em_move : ℕ → ℕ → ℕ → Move
em_move p s e = look (em_rows p) s e (unlisted e)

-- "An emergency holds exactly while EM isn't IDLE."
abbrev pub pc2_quiet : List ℕ → ℕ
pc2_quiet at = pick (eqb (get_or at EM 0) IDLE) PC2 no_timer

-- "start PC2 if PC is ACTIVE"; and where an emergency begins, at EM-IDLE, "PC2 if it runs" comes to the same by the watch table
abbrev pub pc2_active : List ℕ → ℕ
pc2_active at = pick (eqb (get_or at PC 0) ACTIVE) PC2 no_timer

-- the rows of each module at the present states, in the order of the modules
unfoldable pub ground_rows : List ℕ → List (List Row)
ground_rows at = dc_rows ∷ contract_rows EC EC1 EC2 no_timer ∷ contract_rows PC PC1 PC3 (pc2_quiet at) ∷ em_rows (pc2_active at) ∷ []

-- LI's own moves, with LI1 of 02, L8: "it starts with every end request, stops on end confirm or any abort". The end request; the end confirm
abbrev pub li_end : Move
li_end = send (start LI1 (to LI LI-END))

abbrev pub li_over : Move
li_over = stop LI1 (to LI LI-IDLE)
